use Rattle.textarea_uses.proofs.Halves.{agrees_outside, apart_back}
use Rattle.textarea_uses.proofs.side_by_side.draw_both.Goals as goal

pub returns-clause-drawn : goal.returns-clause-drawn
returns-clause-drawn c =
    let halves = c.halves.result in
    record {
      apart = c.halves.ensures.apart;
      between = c.render-left_drawn.new.buffer;
      left_is = c.in_ok-left_drawn.ensures.cells;
      left_stays = agrees_outside halves.0 halves.1 c.render-left_drawn.new.buffer c.render-right_drawn.new.buffer c.halves.ensures.apart c.render-right_drawn.ensures.outside;
      right_finds = agrees_outside halves.1 halves.0 c.args.buffer.now c.render-left_drawn.new.buffer (apart_back halves.0 halves.1 c.halves.ensures.apart) c.render-left_drawn.ensures.outside;
      right_is = c.in_ok-right_drawn.ensures.cells;
    }
