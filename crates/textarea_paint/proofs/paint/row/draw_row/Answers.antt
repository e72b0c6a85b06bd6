use Rattle.std.proofs.lemmas.Grind.{common_steps}
use Rattle.std.proofs.Common.{◌≡◌, true, refl, sym, ap, ◌∙◌, arith}
use Rattle.std.proofs.lemmas.Result.{on_ok_weaker, on_err_weaker}
use Rattle.textarea_screen.specs.Rect.{contains}
use Rattle.textarea_screen.specs.Text.{line_view}
use Rattle.textarea_screen.proofs.ChangeLemmas.{Changes-inside, Changes-none}
use Rattle.textarea_paint.specs.Cells.{place_from}
use Rattle.textarea_paint.specs.Clusters.{row_clusters}
use Rattle.textarea_paint.specs.LineClusters.{clusters_left}
use Rattle.textarea_paint.specs.Row.{first_visible_column, placed_row, fitting, row_cell}
use Rattle.textarea_paint.proofs.RowAreaLemmas.{first_visible-fitting, placed_row-fitting, row_start-within, unseen_row, row_cell-outside, row_of_texts, unchanged_outside, not_none}
use Rattle.textarea_paint.proofs.paint.row.draw_row.Goals as goal

pub returns-then-not-contains-clause-ok : goal.returns-then-not-contains-clause-ok
returns-then-not-contains-clause-ok c =
    let line = line_view c.args.line.now in
    Changes-inside (row_cell c.args.rows c.args.y line) (Changes-none c.args.buffer.now (λ column row cell. cell) (λ column row cell. refl))
    (λ column row cell inside.
    sym (row_cell-outside c.args.rows c.args.y line column row cell
    (unseen_row c.args.rows.area c.area.result c.intersection-visible.result c.args.y c.intersection-visible.ensures (sym c.contains.ensures ∙ c.if-not-contains.true) column row
    (ap (λ area. contains area column row) c.area.ensures ∙ inside))))

pub returns-in-Left : goal.returns-in-Left
returns-in-Left c =
    let rows = c.args.rows in
    let line = line_view c.args.line.now in
    let visible = c.intersection-visible.result in
    let here : contains visible visible.x c.args.y ≡ true = sym c.contains.ensures ∙ c.if-not-contains.false in
    record {
      ok = on_ok_weaker c.draw_clusters.result
          (row_of_texts rows c.area.result visible c.args.y c.intersection-visible.ensures here line
          rows.left (place_from 0 (clusters_left c.new-clusters.result)) (ap (λ a. first_visible_column a rows.left) c.in-Left.is)
          (ap (λ a. placed_row a rows.area.width (row_clusters rows.style line)) c.in-Left.is ∙ ap (place_from 0) (sym c.new-clusters.ensures)))
          c.draw_clusters.ensures.ok;
      inline = λ short. c.draw_clusters.ensures.inline (rw c.new-clusters.ensures short);
      unseen = λ none. absurd (not_none rows c.area.result visible c.args.y c.intersection-visible.ensures here c.args.buffer.now c.area.ensures none);
      err = on_err_weaker c.draw_clusters.result (unchanged_outside rows c.area.result visible c.args.y c.intersection-visible.ensures here) c.draw_clusters.ensures.err;
    }

pub draw_fitting-requires-clause-within : goal.draw_fitting-requires-clause-within
draw_fitting-requires-clause-within c = grind (arith, common_steps, row_start-within)

pub returns-in_default : goal.returns-in_default
returns-in_default c =
    let rows = c.args.rows in
    let clusters = row_clusters rows.style (line_view c.args.line.now) in
    let visible = c.intersection-visible.result in
    let here : contains visible visible.x c.args.y ≡ true = sym c.contains.ensures ∙ c.if-not-contains.false in
    record {
      ok = on_ok_weaker c.draw_fitting.result
          (row_of_texts rows c.area.result visible c.args.y c.intersection-visible.ensures here (line_view c.args.line.now)
          0 (place_from c.row_start-start.result (fitting rows.area.width clusters)) (first_visible-fitting rows.alignment rows.left c.in_default.not-Left)
          (placed_row-fitting rows.alignment rows.area.width c.row_start-start.result clusters c.in_default.not-Left c.row_start-start.ensures))
          c.draw_fitting.ensures.ok;
      inline = c.draw_fitting.ensures.inline;
      unseen = λ none. absurd (not_none rows c.area.result visible c.args.y c.intersection-visible.ensures here c.args.buffer.now c.area.ensures none);
      err = on_err_weaker c.draw_fitting.result (unchanged_outside rows c.area.result visible c.args.y c.intersection-visible.ensures here) c.draw_fitting.ensures.err;
    }
