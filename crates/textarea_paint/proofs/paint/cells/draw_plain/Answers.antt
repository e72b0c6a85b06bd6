use Rattle.std.proofs.Common.{drop, take, ap, ◌∙◌, arith}
use Rattle.textarea_screen.proofs.ChangeLemmas.{Changes-as}
use Rattle.textarea_paint.specs.Cells.{place_from, row_change}
use Rattle.textarea_paint.specs.Clusters.{plain_clusters}
use Rattle.textarea_paint.proofs.PlainRowLemmas.{row_change-plain}
use Rattle.textarea_paint.proofs.paint.cells.draw_plain.Goals as goal

pub returns-clause-drawn : goal.returns-clause-drawn
returns-clause-drawn c = λ left column at.
    let cells = c.args.cells in
    let pen = c.args.pen in
    let text = c.args.text.now in
    let hidden = c.min-hidden.result in
    let displayed = c.min-displayed.result in
    Changes-as (λ x y cell. row_change cells left (place_from column (plain_clusters c.args.style text)) x y cell) c.put_ascii.ensures
    (λ x y cell.
    row_change-plain cells pen left column hidden displayed c.args.style text c.range-part.result.now at
    (record { left_of = omega arith; inside = omega arith }) (c.range-part.ensures.value ∙ ap (λ n. take n (drop hidden text)) (omega arith)) c.requires.printable x y cell)
