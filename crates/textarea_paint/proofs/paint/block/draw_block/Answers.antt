use Rattle.std.proofs.lemmas.Grind.{common_steps}
use Rattle.std.proofs.Common.{arith, List, ◌∷◌, ◌++◌, refl}
use Rattle.std.proofs.lemmas.Bool.{cond-false}
use Rattle.std.proofs.lemmas.Result.{on_ok_weaker, on_err_weaker}
use Rattle.textarea_screen.specs.Block.{BlockView, block_view}
use Rattle.textarea_screen.specs.Buffer.{Change, Changes}
use Rattle.textarea_screen.specs.Cell.{styled}
use Rattle.textarea_screen.specs.Rect.{contains}
use Rattle.textarea_screen.proofs.ChangeLemmas.{Changes-none, KeepsOutside-then, KeepsOutside-from_changes}
use Rattle.textarea_screen.specs.declared.screen.rect.Rect.{Rect}
use Rattle.textarea_paint.specs.Block.{in_area, in_turn, side_changes, corner_changes, title_change, block_changes, block_cell}
use Rattle.textarea_paint.proofs.BlockLemmas.{Changes-in_area}
use Rattle.textarea_paint.proofs.paint.block.draw_block.Goals as goal

pub returns-then-is_empty-clause-ok : goal.returns-then-is_empty-clause-ok
unfolding block_cell
returns-then-is_empty-clause-ok c = grind (arith, common_steps, Changes-none, cond-false)

abbrev base : BlockView → Change
base block x y cell = styled block.style cell

abbrev sides : BlockView → Rect → List Change
sides block area = side_changes block.borders block.border_style area

abbrev corners : BlockView → Rect → List Change
corners block area = corner_changes block.borders block.border_style area

-- all but the title
with_corners : (c : goal.After-draw_title) →
    Changes c.args.buffer.now c.draw_corners.new.buffer
    (in_area c.args.area (in_turn (base (block_view c.args.block.now) ∷ sides (block_view c.args.block.now) c.args.area ++ corners (block_view c.args.block.now) c.args.area)))
with_corners c =
    let area = c.args.area in
    let block = block_view c.args.block.now in
    let with_sides =
    Changes-in_area area (base block) (in_turn (sides block area)) (in_turn (base block ∷ sides block area)) c.set_style.ensures c.in_ok-draw_sides.ensures.ok (λ x y cell. refl) in
    Changes-in_area area (in_turn (base block ∷ sides block area)) (in_turn (corners block area)) (in_turn (base block ∷ sides block area ++ corners block area)) with_sides
    c.in_ok-draw_corners.ensures.ok (λ x y cell. refl)

pub returns-clause-ok : goal.returns-clause-ok
unfolding block_cell
returns-clause-ok c =
    let area = c.args.area in
    let block = block_view c.args.block.now in
    on_ok_weaker c.draw_title.result
    (λ last.
    Changes-in_area area (in_turn (base block ∷ sides block area ++ corners block area)) (title_change block area) (in_turn (block_changes block area)) (with_corners c) last
    (λ x y cell. refl))
    c.draw_title.ensures.ok

pub returns-clause-err : goal.returns-clause-err
returns-clause-err c =
    let before = KeepsOutside-from_changes (contains c.args.area) (with_corners c) (λ x y cell outside. cond-false (contains c.args.area x y) _ _ outside) in
    on_err_weaker c.draw_title.result (λ last. KeepsOutside-then before last) c.draw_title.ensures.err
