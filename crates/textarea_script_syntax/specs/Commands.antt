-- The table of commands, and the meaning of a script's line.
use Rattle.std.specs.Prelude.{ℕ, ◌*◌, Bool, if◌then◌else◌, List, [], ◌∷◌, ◌++◌, codes, Option, Some, None, option_map, option_and_then}
use Rattle.std.specs.List.{after_first, before_first}
use Rattle.std.specs.Option.{option_zip}
use Rattle.textarea_data.specs.declared.cursor.CursorMove.TheVariants as move
use Rattle.textarea_screen.specs.Style.{empty_style}
use Rattle.textarea_script_syntax.specs.Arguments.{both, has_space, is_separator, number, page, sides, split_first, truth, two_places, two_short_numbers}
use Rattle.textarea_script_syntax.specs.CallCommands.{call_commands}
use Rattle.textarea_script_syntax.specs.Escapes.{unescaped, unescaped_lines}
use Rattle.textarea_script_syntax.specs.Inputs.{input_named}
use Rattle.textarea_script_syntax.specs.Meaning.{Meaning, SetNow, Render, InsertStr, InsertPasted, SetYankText, TrySetAtomicRanges, SetSearchPattern, SetLines, ReplaceRange, Press, meaning_by, plain_command, with_arguments, with_text, SetSearchText, ReplaceMatch, ReplaceAll}
use Rattle.textarea_script_syntax.specs.Ranges.{ranges_after_space}
use Rattle.textarea_calls.specs.declared.call.Call.{Call}
use Rattle.textarea_calls.specs.declared.call.Call.TheVariants as call

-- line numbers in the empty style, or none
abbrev pub line_numbers : Bool → Call
line_numbers displayed = if displayed then call.SetLineNumberStyle empty_style else call.RemoveLineNumber

-- the lines and cursor position of a `set_lines`: a row, a column, and a text, empty by default
abbrev pub lines_and_place : List ℕ → Option (List (List ℕ) × (ℕ × ℕ))
lines_and_place with_text =
    option_and_then
    (λ p. option_zip (unescaped_lines (after_first is_separator p.1)) (option_zip (number p.0) (number (before_first is_separator p.1))))
    (split_first with_text)

abbrev pub set_lines_meaning : Option (List ℕ) → Option Meaning
set_lines_meaning = with_arguments lines_and_place (λ p. SetLines p.0 p.1)

-- a number and a text, which is empty by default
abbrev pub number_and_text : List ℕ → Option (ℕ × List ℕ)
number_and_text with_text =
    option_zip (number (before_first is_separator with_text)) (unescaped (after_first is_separator with_text))

-- two positions and a text, which is empty by default
abbrev pub places_and_text : List ℕ → Option (ℕ × (ℕ × (ℕ × (ℕ × List ℕ))))
places_and_text = both number (both number (both number number_and_text))

abbrev pub replace_range_meaning : Option (List ℕ) → Option Meaning
replace_range_meaning =
    with_arguments places_and_text (λ p. ReplaceRange (p.0, p.1.0) (p.1.1.0, p.1.1.1.0) p.1.1.1.1)

-- the text and the two options of a `set_search_text`: whether case is ignored, whether whole words
-- are wanted, and a text, empty by default
abbrev pub text_and_options : List ℕ → Option (List ℕ × (Bool × Bool))
text_and_options with_text =
    option_and_then
    (λ p. option_zip (unescaped (after_first is_separator p.1)) (option_zip (truth p.0) (truth (before_first is_separator p.1))))
    (split_first with_text)

abbrev pub search_text_meaning : Option (List ℕ) → Option Meaning
search_text_meaning = with_arguments text_and_options (λ p. SetSearchText p.0 p.1.0 p.1.1)

-- a command with any number of atomic ranges; there are none where nothing follows the name
abbrev pub some_ranges : Option (List ℕ) → Option Meaning
some_ranges arguments = option_map TrySetAtomicRanges (ranges_after_space arguments)

-- the commands of calls that borrow nothing, and whose arguments are read in another way than those
-- of `call_commands`
abbrev pub other_commands : List (List ℕ × (Option (List ℕ) → Option Meaning))
other_commands =
    (codes "render", with_arguments sides Render)
    ∷ (codes "hit", plain_command two_short_numbers (λ p. call.CursorAtPosition (record { x = p.0; y = p.1 })))
    ∷ (codes "jump", plain_command two_short_numbers (λ p. call.Move (move.Jump p.0 p.1)))
    ∷ (codes "page", plain_command page call.Scroll)
    ∷ (codes "line_numbers", plain_command truth line_numbers)
    ∷ (codes "text_range", plain_command two_places (λ p. call.TextRange p.0 p.1))
    ∷ (codes "now", with_arguments number (λ millis. SetNow (millis * 1_000_000)))
    ∷ []

-- all commands of calls that borrow nothing
abbrev pub plain_commands : List (List ℕ × (Option (List ℕ) → Option Meaning))
plain_commands = other_commands ++ call_commands

-- the commands of calls that borrow a text, ranges, lines or an input
abbrev pub borrowing_commands : List (List ℕ × (Option (List ℕ) → Option Meaning))
borrowing_commands =
    (codes "insert_str", with_text InsertStr)
    ∷ (codes "insert_pasted", with_text InsertPasted)
    ∷ (codes "set_yank_text", with_text SetYankText)
    ∷ (codes "set_search_pattern", with_text SetSearchPattern)
    ∷ (codes "set_search_text", search_text_meaning)
    ∷ (codes "ranges", some_ranges)
    ∷ (codes "set_lines", set_lines_meaning)
    ∷ (codes "replace_range", replace_range_meaning)
    ∷ (codes "replace_match", with_text ReplaceMatch)
    ∷ (codes "replace_all", with_text ReplaceAll)
    ∷ (codes "input", with_arguments input_named Press)
    ∷ []

-- all commands
abbrev pub commands : List (List ℕ × (Option (List ℕ) → Option Meaning))
commands = borrowing_commands ++ plain_commands

unfoldable pub plain_meaning : List ℕ → Option (List ℕ) → Option Meaning
plain_meaning = meaning_by plain_commands

unfoldable pub command_meaning : List ℕ → Option (List ℕ) → Option Meaning
command_meaning = meaning_by commands

-- the text after the first space of a line, if there is a space
abbrev pub after_space : List ℕ → Option (List ℕ)
after_space line = if has_space line then Some (after_first is_separator line) else None

-- the meaning of a line: its name ends at the first space
abbrev pub line_meaning : List ℕ → Option Meaning
line_meaning line = command_meaning (before_first is_separator line) (after_space line)
