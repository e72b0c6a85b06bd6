use Rattle.std.proofs.Common.{◌≡◌, ◌++◌, map, take}
use Rattle.textarea_text.specs.Text.{characters, characters_of, following, lines_of}
use Rattle.tui_textarea.specs.Guards.{spaced}
use Rattle.tui_textarea.proofs.textarea.guards.join_with_spaces.Given as goal

abbrev pub invariant-loop-fragment_line : goal.invariant-loop-fragment_line
invariant-loop-fragment_line l = characters (characters_of l.text) ≡ characters (characters_of l.initial.text) ++ map spaced (following (take l.fragment_line-index (lines_of l.rest)))
