use Rattle.std.proofs.Common.{List, [], subst, sym}
use Rattle.textarea_wrap.specs.RowsView.{RowsView}
use Rattle.textarea_blocks.specs.Blocks.{all_rows}
use Rattle.textarea_screen_map.specs.LineRows.{AreRowsOf}
use Rattle.textarea_screen_map.proofs.screen_map.new_rows.Goals as goal

pub returns-clause-rows : goal.returns-clause-rows
returns-clause-rows c =
    let none = subst (λ (t : List (List RowsView)). AreRowsOf c.args.wrapping [] (all_rows t)) (sym c.new-blocks.ensures) tt in
    c.in_ok-push_lines.ensures.rows [] none
