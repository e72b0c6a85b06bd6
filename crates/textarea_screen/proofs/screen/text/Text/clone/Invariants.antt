use Rattle.std.proofs.Common.{◌≡◌, map, take}
use Rattle.textarea_screen.specs.Text.{line_view}
use Rattle.textarea_screen.proofs.screen.text.Text.clone.Given as goal

abbrev pub invariant-loop-line : goal.invariant-loop-line
invariant-loop-line l = map line_view l.lines.items ≡ map line_view (take l.line-index l.self.lines.items)
