use Rattle.std.proofs.Common.{◌≡◌, ◌++◌, drop, map}
use Rattle.textarea_document.specs.Changes.{change_view}
use Rattle.textarea_document.proofs.document.changes.copies.Given as goal

abbrev pub invariant-loop-change : goal.invariant-loop-change
invariant-loop-change l =
    map change_view l.copies.items ++ map change_view (drop l.change-index l.changes) ≡ map change_view l.changes
