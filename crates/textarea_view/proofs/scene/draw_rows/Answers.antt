use Rattle.std.proofs.Common.{◌∙◌}
use Rattle.textarea_screen.specs.Text.{line_view}
use Rattle.textarea_view.proofs.Drawing.{drawn_inside, drawn_more_as, drawn_none, failed_inside}
use Rattle.textarea_view.proofs.Layers.{also_on_err}
use Rattle.textarea_view.proofs.scene.draw_rows.Goals as goal

pub returns-in_err-left-clause-err : goal.returns-in_err-left-clause-err
returns-in_err-left-clause-err c =
    also_on_err c.from_residual.result
    (drawn_inside c.args.context.now c.args.top c.args.rows c.args.buffer.now c.loop-i.buffer c.loop-i.i c.loop-i.invariant.1)

pub returns-in_err-draw_row-clause-err : goal.returns-in_err-draw_row-clause-err
returns-in_err-draw_row-clause-err c =
    also_on_err c.from_residual-in_err-draw_row.result
    (failed_inside c.args.context.now c.args.top c.args.rows c.args.buffer.now c.loop-i.buffer c.draw_row.new.buffer c.loop-i.i _ c.loop-i.invariant.1 c.in_err-draw_row.ensures.err)

pub loop-i-init : goal.loop-i-init
loop-i-init c = (c.requires.matches, drawn_none c.args.context.now c.args.top c.args.rows c.args.buffer.now)

pub loop-i-preserved : goal.loop-i-preserved
loop-i-preserved c =
    let known = c.loop-i.invariant in (
      c.in_ok-left.ensures.same ∙ known.0,
      drawn_more_as c.args.context.now c.args.top c.args.rows c.args.buffer.now c.loop-i.buffer c.draw_row.new.buffer c.loop-i.i _ (line_view c.show_visible_in.new.line) known.1
          c.in_ok-left.ensures.displayed (rw c.y.ensures at c.in_ok-draw_row.ensures.ok),
    )
