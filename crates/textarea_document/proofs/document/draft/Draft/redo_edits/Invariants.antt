use Rattle.std.proofs.Common.{◌≡◌}
use Rattle.textarea_document.specs.Prelude.{edit_redone, times}
use Rattle.textarea_document.proofs.document.draft.Draft.redo_edits.Given as goal

abbrev pub invariant-loop : goal.invariant-loop
invariant-loop l = l.self ≡ times l.counter edit_redone l.fn.self
