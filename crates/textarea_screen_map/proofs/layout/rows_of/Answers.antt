use Rattle.std.proofs.Common.{List, [], sym, subst}
use Rattle.textarea_wrap.specs.RowsView.{RowsView}
use Rattle.textarea_screen_map.specs.LineRows.{AreRowsOf}
use Rattle.textarea_screen_map.proofs.layout.rows_of.Goals as goal

pub returns-clause-rows : goal.returns-clause-rows
returns-clause-rows c =
    let none = subst (λ (t : List RowsView). AreRowsOf c.args.wrapping [] t) (sym c.in_ok-rows.ensures.items) tt in
    c.in_ok-push_rows.ensures.rows [] none
