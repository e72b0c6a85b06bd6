use Rattle.textarea_c.proofs.calls.screen.draw.Goals as goal

pub returns : goal.returns
returns c = record {
  rect = c.read.result;
  is = c.read.ensures;
  rendered = c.draw_in.ensures.rendered;
  drawn = c.draw_in.ensures.drawn;
  back = c.draw_in.ensures.back;
  displayed = c.draw_in.ensures.displayed;
  outside = c.draw_in.ensures.outside;
  left = c.draw_in.ensures.left;
  rest = c.draw_in.ensures.rest;
}
