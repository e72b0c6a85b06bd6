use Rattle.std.proofs.Common.{◌≡◌, ◌++◌, length}
use denote.Shadow.{shadow}
use denote.Text.{Utf8}
use Rattle.textarea_files.specs.FileText.{closed_bytes}
use Rattle.textarea_files.proofs.file_text.push_closed.Given as goal

-- the lines so far, each with its line end, and the rest are what was there and the whole text
abbrev pub invariant-loop-line : goal.invariant-loop-line
invariant-loop-line l =
    shadow (Utf8 l.rest) × (closed_bytes l.end l.lines.items ++ l.rest ≡ closed_bytes l.end l.fn.lines.items ++ l.text)

abbrev pub decreases-loop-line : goal.decreases-loop-line
decreases-loop-line l = length l.rest
