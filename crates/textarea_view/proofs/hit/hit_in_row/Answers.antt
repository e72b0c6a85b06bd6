use Rattle.std.proofs.Common.{◌≤◌, sym, ap, subst}
use Rattle.textarea_view.specs.Hit.{greatest_at}
use Rattle.textarea_view.specs.Prelude.{VisualRow}
use Rattle.textarea_screen_map.specs.VisualRows.{greatest_column, row_at}
use Rattle.textarea_view.proofs.HitLemmas.{nearer}
use Rattle.textarea_view.proofs.hit.hit_in_row.Goals as goal

pub returns-clause-hit : goal.returns-clause-hit
returns-clause-hit c =
    let rows = c.scene.inside.rows in
    let visual : VisualRow = row_at rows.lines rows.rows c.args.row in
    let within : greatest_at rows c.args.row ≤ c.most_columns-most.result =
    subst (λ t. greatest_column t visual ≤ c.most_columns-most.result) c.tab_len.ensures (c.most_columns-most.ensures visual (ap (λ (r : VisualRow). r.text) (sym c.row_at-displayed.ensures.displayed))) in
    rw (← c.scene.view_is) (record {
      row = c.args.row;
      row_is = rw (← c.scene.view_is) at c.requires.hit;
      view = c.in_ok-view.view;
      view_is = rw (← c.scene.view_is) at c.in_ok-view.ensures.view;
      near = nearer rows c.in_ok-view.view c.args.row _ c.most_columns-most.result _ within (rw (c.hit_column-column.ensures) at c.place_near.ensures.near);
    })
