use Rattle.textarea_lines.proofs.RowsOnce.{line_wrapped}
use Rattle.textarea_lines.proofs.rows_at_once.rows_of_line.Goals as goal

pub returns-in-None : goal.returns-in-None
returns-in-None c =
    line_wrapped c.args.old.now c.args.count.now c.line_ranges.new.count c.args.line.now c.args.origin c.wrapping-wrapping.result c.line_ranges.result c.in-None.is c.wrapping-wrapping.ensures c.utf8.line
    c.line_ranges.ensures.rows c.line_ranges.ensures.marks c.line_ranges.ensures.short c.line_ranges.ensures.counted c.line_ranges.ensures.tick
