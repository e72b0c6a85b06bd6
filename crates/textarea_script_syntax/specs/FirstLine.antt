-- The first line of a text with escapes.
use Rattle.std.specs.Prelude.{◌≡◌, List, ◌∷◌, ℕ, Option, option_copied, option_map, Result, Ok, Err}
use Rattle.textarea_script_syntax.specs.Arguments.{IsUnparsedAs}
use Rattle.textarea_script_syntax.specs.Escapes.{in_front, lines_after_escape, unescaped_lines}
use Rattle.textarea_script_syntax.specs.declared.arguments.Unparsed.{Unparsed}
use denote.Ref.{Bor}

-- the first line of the text was appended to a line: the old line with the text after it has the
-- new line, and then the lines after the escape that ended it
abbrev pub IsLinePushed : List ℕ → List ℕ → List ℕ → Result (Option (Bor (List ℕ))) Unparsed → Type 0
IsLinePushed old new text (Ok after) =
    option_map (λ lines. in_front old lines) (unescaped_lines text) ≡ option_map (λ more. new ∷ more) (lines_after_escape (option_copied after))
IsLinePushed old new text (Err unread) = IsUnparsedAs (unescaped_lines text) unread
