use Rattle.std.proofs.Common.{◌≡◌, map, take}
use Rattle.textarea_screen.specs.Text.{span_view}
use Rattle.textarea_screen.proofs.screen.text.Line.clone.Given as goal

abbrev pub invariant-loop-span : goal.invariant-loop-span
invariant-loop-span l = map span_view l.spans.items ≡ map span_view (take l.span-index l.self.spans.items)
