use Rattle.std.proofs.Common.{◌≡◌, ◌+◌, length, take}
use Rattle.textarea_text.specs.Text.{following, lines_of}
use Rattle.tui_textarea.proofs.textarea.guards.has_at_most.Given as goal

-- what is left after the lines so far
abbrev pub invariant-loop-fragment_line : goal.invariant-loop-fragment_line
invariant-loop-fragment_line l = l.left + length (following (lines_of (take l.fragment_line-index l.rest))) ≡ l.initial.left
