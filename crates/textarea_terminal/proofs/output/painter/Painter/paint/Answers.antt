use Rattle.textarea_terminal.proofs.PaintFill.{frame-whole}
use Rattle.textarea_terminal.proofs.output.painter.Painter.paint.Goals as goal

pub write-requires-clause-whole : goal.write-requires-clause-whole
write-requires-clause-whole c = rw (c.in_ok-fill_next.ensures.filled, c.in_ok-fill_next.ensures.area) (frame-whole c.args.self.now.colors c.args.self.now.area c.args.buffer.now)

pub swap_frames-requires : goal.swap_frames-requires
swap_frames-requires c = record {
  whole = rw (c.in_ok-write.ensures.next, c.in_ok-fill_next.ensures.filled, c.in_ok-write.ensures.area, c.in_ok-fill_next.ensures.area) (frame-whole c.args.self.now.colors c.args.self.now.area c.args.buffer.now);
}
