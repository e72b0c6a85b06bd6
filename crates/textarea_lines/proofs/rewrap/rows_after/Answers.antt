use Rattle.std.proofs.Common.{◌+◌, ◌-◌, ◌++◌, List, [], ap, refl, sym, subst, arith, length, take, drop}
use Rattle.std.proofs.lemmas.List.{length-drop, length-take-le, take_rest}
use Rattle.textarea_text.specs.Text.{lines_of}
use Rattle.textarea_wrap.specs.RowsView.{RowsView}
use Rattle.textarea_blocks.specs.Blocks.{all_rows}
use Rattle.textarea_screen_map.specs.LineRows.{AreRowsOf, ticks_of}
use Rattle.textarea_lines.proofs.Layouts.{rows_together, ticks_together}
use Rattle.textarea_lines.proofs.rewrap.rows_after.Goals as goal

pub returns-clause-rows : goal.returns-clause-rows
returns-clause-rows c =
    let new = c.args.replacement.now in
    let items = c.args.lines.now in
    let at = new.row + new.count in
    let above = take new.row items in
    let below = take (length items - at) (drop at items) in
    let none = subst (λ (t : List (List RowsView)). AreRowsOf c.args.wrapping [] (all_rows t)) (sym c.new-none.ensures) tt in
    let first = c.in_ok-above.ensures.rows [] none in
    let second = c.in_ok-through.ensures.rows (lines_of above) first in
    rows_together c.args.wrapping items new.lines.items above c.as_slice-new.result.now below new.row new.count (all_rows c.in_ok-all.all.blocks) refl c.as_slice-new.ensures.value (take_rest items at)
    (c.in_ok-all.ensures.rows (lines_of above ++ lines_of c.as_slice-new.result.now) second)

pub returns-clause-ticks : goal.returns-clause-ticks
returns-clause-ticks c =
    let at = c.args.replacement.now.row + c.args.replacement.now.count in
    let items = c.args.lines.now in
    ticks_together (ticks_of (all_rows c.new-none.result.blocks)) _ _ _ c.args.count.now _ _ _ _ _ _ (ap (λ t. ticks_of (all_rows t)) c.new-none.ensures)
    c.in_ok-above.ensures.ticks c.in_ok-above.ensures.counted c.in_ok-through.ensures.ticks c.in_ok-through.ensures.counted c.in_ok-all.ensures.ticks
    (omega (arith, c.requires, c.as_slice-new.ensures.len, length-take-le c.args.replacement.now.row items (omega arith), ap length (take_rest items at), length-drop at items))
