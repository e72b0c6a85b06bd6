use Rattle.std.proofs.Common.{◌+◌, ◌<◌, nat_le, nat_lt, [], ◌∷◌, length, ap, sym, ◌∙◌, arith}
use Rattle.std.proofs.lemmas.Bool.{and_parts}
use Rattle.std.proofs.lemmas.Bool.Decides.{nat_tests}
use Rattle.textarea_screen.specs.Buffer.{area_of, wide_change}
use Rattle.textarea_screen.specs.declared.screen.cell.TheConstants.{INLINE_BYTES}
use Rattle.textarea_screen.proofs.ChangeLemmas.{Changes-as}
use Rattle.textarea_paint.specs.Cells.{placed_at, row_change}
use Rattle.textarea_paint.specs.Clusters.{Cluster}
use Rattle.textarea_paint.specs.LineClusters.{styled_cluster}
use Rattle.textarea_paint.proofs.CellLemmas.{row_change-one}
use Rattle.textarea_paint.proofs.LetterPutLemmas.{room-at, whole}
use Rattle.textarea_paint.proofs.paint.cells.draw_unit.Goals as goal

pub put_text-requires : goal.put_text-requires
put_text-requires c =
    let room = room-at (area_of c.args.buffer.now) c.args.cells c.args.pen c.args.columns (sym c.is_room_at.ensures ∙ c.if-is_room_at.true) in
    let parts = and_parts (nat_lt 0 c.args.columns) (nat_le (length c.args.cluster.text.now) INLINE_BYTES) (sym c.is_inline.ensures ∙ c.if-is_inline.true) in
    let some : 0 < c.args.columns = grind (arith, nat_tests, parts.0) in
    record {
      columns = some;
      start = room.inside;
      end = omega (arith, some, room.room);
      inline = grind (arith, nat_tests, parts.1);
    }

pub returns-then-is_inline-clause-drawn : goal.returns-then-is_inline-clause-drawn
returns-then-is_inline-clause-drawn c = λ left column at.
    let cells = c.args.cells in
    let pen = c.args.pen in
    let columns = c.args.columns in
    let cluster : Cluster = styled_cluster c.args.cluster in
    let room = room-at (area_of c.args.buffer.now) cells pen columns (sym c.is_room_at.ensures ∙ c.if-is_room_at.true) in
    Changes-as (λ x y cell. row_change cells left (placed_at column cluster ∷ []) x y cell) c.put_text.ensures
    (λ x y cell.
    ap (λ b. wide_change pen.x cells.y (pen.x + columns) cluster.text b cluster.style x y cell) (whole columns _ (sym c.requires.columns))
    ∙ row_change-one cells pen left column 0 columns cluster at
    (record { left_of = omega (arith, room.hidden); inside = omega (arith, room.hidden, room.room, c.requires.within.1, c.requires.columns) }) x y cell)
