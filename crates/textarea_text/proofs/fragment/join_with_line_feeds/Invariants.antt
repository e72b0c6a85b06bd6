use Rattle.std.proofs.Common.{◌≡◌, ◌++◌, take}
use Rattle.textarea_text.specs.Prelude.{characters_of, following, lines_of, fragment_text}
use Rattle.textarea_text.proofs.fragment.join_with_line_feeds.Given as goal

abbrev pub invariant-loop-fragment_line : goal.invariant-loop-fragment_line
invariant-loop-fragment_line l = characters_of l.text ≡ characters_of l.initial.text ++ fragment_text (following (take l.fragment_line-index (lines_of l.rest)))
