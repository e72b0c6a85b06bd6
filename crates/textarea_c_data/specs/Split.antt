-- The lines that C passes, one after another in one slice.
use Rattle.std.specs.Prelude.{ℕ, List, [], ◌∷◌, Option, Some, option_map}
use Rattle.std.specs.Str.{chars}
use Rattle.textarea_c_data.specs.Texts.{all_read, text_between}

-- the characters of the lines that end at these bytes, the first of which begins at `start`
abbrev pub lines_between : List ℕ → ℕ → List ℕ → Option (List (List ℕ))
lines_between text start [] = Some []
lines_between text start (end ∷ ends) = all_read (option_map chars (text_between text start end)) (lines_between text end ends)
