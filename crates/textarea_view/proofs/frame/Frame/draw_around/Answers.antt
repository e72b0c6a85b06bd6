use Rattle.textarea_view.specs.Prelude.{block_view}
use Rattle.textarea_view.proofs.Layers.{around_outside, either}
use Rattle.textarea_view.proofs.frame.Frame.draw_around.Goals as goal

pub returns-in-Some-clause-outside : goal.returns-in-Some-clause-outside
returns-in-Some-clause-outside c =
    either c.draw_block.result c.draw_block.ensures.ok c.draw_block.ensures.err (around_outside (block_view c.in-Some.block.now) c.args.area c.args.buffer.now c.draw_block.new.buffer) (λ h. h)
