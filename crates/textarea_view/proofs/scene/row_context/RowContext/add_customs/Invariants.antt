use Rattle.std.proofs.Common.{◌≡◌, take}
use Rattle.std.specs.List.{fold}
use Rattle.textarea_view.specs.Prelude.{row_of_texts, with_custom}
use Rattle.textarea_view.proofs.scene.row_context.RowContext.add_customs.Given as goal

abbrev pub invariant-loop-own : goal.invariant-loop-own
invariant-loop-own l = l.highlighter ≡ fold (with_custom (row_of_texts l.displayed)) l.fn.highlighter (take l.own-index l.own-items)
