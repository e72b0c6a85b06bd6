use Rattle.std.proofs.lemmas.Grind.{common_steps}
use Rattle.std.proofs.Common.{◌≡◌, ◌+◌, ◌++◌, ◌∷◌, List, [], ap, arith, length, max}
use Rattle.textarea_text.proofs.Sizes.{size_of_more}
use Rattle.textarea_wrap.specs.RowsView.{RowsView}
use Rattle.textarea_blocks.specs.Sums.{row_total}
use Rattle.textarea_screen_map.proofs.Layouts.{AreRowsOf-more}
use Rattle.textarea_blocks.proofs.Numbers.{row_total-append}
use Rattle.textarea_screen_map.proofs.RowSizes.{size_of_line, size_of_take}
use Rattle.textarea_screen_map.proofs.layout.rows_in.Goals as goal

pub overflow_add-total : goal.overflow_add-total
overflow_add-total c =
    grind (
      arith,
      common_steps,
      size_of_line c.args.wrapping.mode c.args.wrapping.tab_len (max c.args.wrapping.width 1) c.as_str.result.now c.in_ok-wrapped.wrapped.ranges c.in_ok-wrapped.ensures.rows,
      size_of_more,
      size_of_take c.args.lines.now (c.loop-line.line-index + 1),
    )

pub loop-line-preserved : goal.loop-line-preserved
loop-line-preserved c =
    let wrapped = c.in_ok-wrapped.wrapped in
    let before = c.loop-line.invariant.0 in
    let rows : List RowsView = before.0 in
    let few = (size_of_line c.args.wrapping.mode c.args.wrapping.tab_len (max c.args.wrapping.width 1) c.as_str.result.now wrapped.ranges c.in_ok-wrapped.ensures.rows).1 in
    let total : c.loop-line.total + length c.as_slice.result.now ≡ row_total (rows ++ wrapped ∷ []) =
    omega (arith, before.2, ap length c.as_slice.ensures, row_total-append rows (wrapped ∷ [])) in (
      (
        rows ++ wrapped ∷ [],
        AreRowsOf-more c.args.wrapping [] c.args.lines.now c.loop-line.line-index c.line-item.result c.as_str.result.now rows
            wrapped (omega arith) c.line-item.is c.as_str.ensures.value before.1 c.in_ok-wrapped.ensures.rows c.in_ok-wrapped.ensures.marks
            c.in_ok-wrapped.ensures.short,
        total,
      ),
      omega (arith, c.loop-line.invariant.1, few, ap length c.as_slice.ensures, ap length c.as_str.ensures.value, size_of_more c.args.lines.now c.loop-line.line-index c.line-item.result (omega arith) c.line-item.is),
    )
