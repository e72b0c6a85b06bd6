use Rattle.std.proofs.Common.{◌≡◌, ◌+◌, length, take}
use Rattle.textarea_text.specs.Text.{following, lines_of}
use Rattle.tui_textarea.proofs.textarea.guards.symbol_count.Given as goal

-- the lines so far are counted, and the breaks between all of them
abbrev pub invariant-loop-line : goal.invariant-loop-line
invariant-loop-line l = l.count + 1 + l.line-index ≡ length l.lines + length (following (lines_of (take l.line-index l.lines)))
