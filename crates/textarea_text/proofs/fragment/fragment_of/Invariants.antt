use Rattle.std.proofs.Common.{◌≡◌, ◌++◌, length}
use denote.Text.{Utf8}
use denote.Shadow.{shadow}
use Rattle.textarea_text.specs.Prelude.{chars, leading, lines_of, fragment_symbols}
use Rattle.textarea_text.proofs.fragment.fragment_of.Given as goal

-- the lines so far, each with its break, and the rest are the whole text
abbrev pub invariant-loop-line : goal.invariant-loop-line
invariant-loop-line l = shadow (Utf8 l.rest) × (leading (lines_of l.fragment_lines.items) ++ fragment_symbols (chars l.rest) ≡ fragment_symbols (chars l.text))

abbrev pub decreases-loop-line : goal.decreases-loop-line
decreases-loop-line l = length l.rest
