use Rattle.std.proofs.Common.{List, ◌+◌, subst, sym, arith, take}
use Rattle.textarea_text.specs.Text.{lines_of}
use Rattle.textarea_wrap.specs.RowsView.{RowsView}
use Rattle.textarea_lines.specs.RowsAtOnce.{AreRowsAtOnce}
use Rattle.textarea_lines.proofs.RowsOnce.{has_old, rows-more, whole}
use Rattle.textarea_lines.proofs.rows_at_once.rows_at_once.Goals as goal

pub rows_of_line-requires : goal.rows_of_line-requires
rows_of_line-requires c =
    has_old c.args.old.now c.args.lines.now c.args.origins.now c.loop-i.i c.index-lines-i.result c.as_str.result.now c.requires.long (omega (arith, c.loop-i-test.true)) c.index-lines-i.is c.as_str.ensures.value c.requires.rows

pub loop-i-preserved : goal.loop-i-preserved
loop-i-preserved c =
    subst
    (λ (t : List RowsView). AreRowsAtOnce c.args.old.now c.args.count.now (take (c.loop-i.i + 1) (lines_of c.args.lines.now)) (take (c.loop-i.i + 1) c.args.origins.now) t c.rows_of_line.new.count)
    (sym c.in_ok-push.ensures.items)
    (rows-more c.args.old.now c.args.count.now c.loop-i.count c.rows_of_line.new.count c.loop-i.i c.args.lines.now c.index-lines-i.result c.as_str.result.now c.args.origins.now c.loop-i.rows.items c.in_ok-of_line.of_line c.requires.long
    (omega (arith, c.loop-i-test.true)) c.index-lines-i.is c.as_str.ensures.value c.loop-i.invariant c.in_ok-of_line.ensures)

pub returns : goal.returns
returns c =
    whole c.args.old.now c.args.count.now c.loop-i.count c.loop-i.i c.args.lines.now c.args.origins.now c.loop-i.rows.items c.requires.long c.loop-i-test.false c.loop-i.invariant
