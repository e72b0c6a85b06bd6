use Rattle.std.proofs.Common.{List, [], arith, refl, subst, sym}
use Rattle.textarea_text.specs.Text.{lines_of}
use Rattle.textarea_wrap.specs.RowsView.{RowsView}
use Rattle.textarea_blocks.specs.Blocks.{all_rows}
use Rattle.textarea_screen_map.specs.LineRows.{AreRowsOf}
use Rattle.textarea_screen_map.proofs.RowSizes.{size_of_items}
use Rattle.textarea_screen_map.proofs.screen_map.ScreenMap.new.Goals as goal
use Rattle.textarea_screen_map.proofs.screen_map.ScreenMap.new.Goals.{In_ok-push_lines}

right : (c : In_ok-push_lines) → AreRowsOf c.args.wrapping (lines_of c.args.lines.now) (all_rows c.push_lines.new.blocks.blocks)
right c =
    let none = subst (λ (t : List (List RowsView)). AreRowsOf c.args.wrapping [] (all_rows t)) (sym c.new-blocks.ensures) tt in
    c.in_ok-push_lines.ensures.rows [] none

pub invariant_of-result : goal.invariant_of-result
invariant_of-result c =
    let known = right (goal.at.invariant_of-result c).In_ok-push_lines in
    let sums = size_of_items c.args.wrapping c.args.lines.now (all_rows c.push_lines.new.blocks.blocks) known in
    let few = c.in_ok-size.ensures.limit.0 refl in
    record {
      all = c.row_count-total.ensures;
      size_is = omega (arith, c.in_ok-size.ensures.size, sums.0);
      limit = record { size = omega (arith, few, sums.0); few = omega (arith, few, sums.1) };
    }

pub returns-clause-rows : goal.returns-clause-rows
returns-clause-rows c = right (goal.at.returns-clause-rows c).In_ok-push_lines
