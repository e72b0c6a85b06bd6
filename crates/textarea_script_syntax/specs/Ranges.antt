-- How the atomic ranges of a command are read.
use Rattle.std.specs.Prelude.{ℕ, List, [], ◌∷◌, Option, Some, None, option_map}
use Rattle.std.specs.List.{slice_split}
use Rattle.std.specs.Option.{option_zip}
use Rattle.textarea_data.specs.declared.range.AtomicRange.{AtomicRange}
use Rattle.textarea_script_syntax.specs.Arguments.{is_separator, number}

-- the range of a row, a first column, and the column after the last one
abbrev pub range : List ℕ → List ℕ → List ℕ → Option AtomicRange
range row start end =
    option_map (λ p. record { row = p.0; start_col = p.1.0; end_col = p.1.1 })
    (option_zip (number row) (option_zip (number start) (number end)))

-- the ranges of words, each of three words
abbrev pub ranges_of_words : List (List ℕ) → Option (List AtomicRange)
ranges_of_words [] = Some []
ranges_of_words (row ∷ start ∷ end ∷ words) = option_map (λ p. p.0 ∷ p.1) (option_zip (range row start end) (ranges_of_words words))
ranges_of_words words = None

-- the ranges that a text names; its words are separated by single spaces
unfoldable pub ranges : List ℕ → Option (List AtomicRange)
ranges text = ranges_of_words (slice_split is_separator text)

-- the ranges of the text after a space; there are none where there is no space
abbrev pub ranges_after_space : Option (List ℕ) → Option (List AtomicRange)
ranges_after_space None = Some []
ranges_after_space (Some text) = ranges text
