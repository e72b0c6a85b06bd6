use Rattle.std.proofs.Common.{◌+◌, ◌++◌, List, sym, subst, arith, take}
use Rattle.textarea_wrap.specs.RowsView.{RowsView}
use Rattle.textarea_text.specs.Text.{lines_of}
use Rattle.textarea_screen_map.specs.LineRows.{AreRowsOf, ticks_of}
use Rattle.textarea_screen_map.proofs.Layouts.{AreRowsOf-more, ticks_more}
use Rattle.textarea_screen_map.proofs.layout.push_rows.Goals as goal

pub loop-i-preserved : goal.loop-i-preserved
loop-i-preserved c =
    let wrapped = c.in_ok-wrapped.wrapped in
    let now = c.in_ok-push.ensures.items in (
      omega (arith, c.loop-i.invariant.0, c.line_ranges.ensures.counted),
      λ before h. subst (λ (t : List RowsView). AreRowsOf c.args.wrapping (before ++ take (c.loop-i.i + 1) (lines_of c.args.lines.now)) t) (sym now)
          (AreRowsOf-more c.args.wrapping before c.args.lines.now c.loop-i.i c.index-lines-i.result c.as_str.result.now c.loop-i.rows.items wrapped
          (omega arith) c.index-lines-i.is c.as_str.ensures.value (c.loop-i.invariant.1 before h) c.in_ok-wrapped.ensures.rows
          c.in_ok-wrapped.ensures.marks c.in_ok-wrapped.ensures.short),
      ticks_more c.loop-i.rows.items c.push.new.self.items wrapped (ticks_of c.args.rows.now.items) c.args.count.now c.loop-i.i now
          c.loop-i.invariant.2 (omega (arith, c.loop-i.invariant.0, c.in_ok-wrapped.ensures.tick, c.line_ranges.ensures.counted)),
    )
