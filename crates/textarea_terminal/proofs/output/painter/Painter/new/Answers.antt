use Rattle.textarea_terminal.proofs.PaintFill.{erased-whole}
use Rattle.textarea_terminal.proofs.output.painter.Painter.new.Goals as goal

pub invariant_of-result-clause-whole : goal.invariant_of-result-clause-whole
invariant_of-result-clause-whole c =
    rw (c.in_ok-visible.ensures.cells, c.from-rows.ensures, c.from-columns.ensures) (erased-whole c.args.area.height c.args.area.width)
