use Rattle.std.proofs.Common.{ap}
use Rattle.textarea_lines.specs.TextLayout.{TextAndLayout}
use Rattle.textarea_lines.proofs.Changes.{size_made}
use Rattle.textarea_lines.proofs.text_layout.TextLayout.apply_to_lines.Goals as goal

pub apply_inside-requires-clause-size : goal.apply_inside-requires-clause-size
apply_inside-requires-clause-size c =
    size_made c.self.inside.lines.items c.args.self.now.text c.self.inside.size c.in_ok-size.size c.args.change c.self.invariant.contents.stored (ap (λ (s : TextAndLayout). s.text) c.self.view_is) c.requires c.in_ok-size.ensures.size

pub apply_by_lines-requires-clause-size : goal.apply_by_lines-requires-clause-size
apply_by_lines-requires-clause-size c =
    size_made c.self.inside.lines.items c.args.self.now.text c.self.inside.size c.in_ok-size.size c.args.change c.self.invariant.contents.stored (ap (λ (s : TextAndLayout). s.text) c.self.view_is) c.requires c.in_ok-size.ensures.size
