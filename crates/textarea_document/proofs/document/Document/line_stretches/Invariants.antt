use Rattle.std.proofs.Common.{◌≡◌, ◌≤◌, ◌+◌, ◌++◌, drop}
use Rattle.textarea_document.specs.Prelude.{lines_of, size_limit, size_of}
use Rattle.textarea_document.specs.Indenting.{stretches_from}
use Rattle.textarea_document.proofs.document.Document.line_stretches.Given as goal

-- the stretches so far, and those of the lines that are left
abbrev pub invariant-loop-row : goal.invariant-loop-row
invariant-loop-row l =
    (l.before + size_of (drop l.row l.lines) ≤ size_limit)
    × (l.stretches.items ++ stretches_from l.self l.outdents l.row l.before (drop l.row (lines_of l.lines)) ≡ stretches_from l.self l.outdents 0 0 (lines_of l.lines))
