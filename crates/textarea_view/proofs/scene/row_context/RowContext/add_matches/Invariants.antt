use Rattle.std.proofs.Common.{◌≡◌, take}
use Rattle.std.specs.List.{fold}
use Rattle.textarea_view.specs.Prelude.{row_of_texts, with_match}
use Rattle.textarea_view.proofs.scene.row_context.RowContext.add_matches.Given as goal

abbrev pub invariant-loop-found : goal.invariant-loop-found
invariant-loop-found l = l.highlighter ≡ fold (with_match l.style (row_of_texts l.displayed)) l.fn.highlighter (take l.found-index l.matches)
