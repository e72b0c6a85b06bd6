-- The pattern of a plain text, each of whose characters stands for itself.
use Rattle.std.specs.Prelude.{ℕ, Bool, false, ◌&&◌, ◌==◌, List, [], ◌∷◌, ◌++◌, map, slice_get, Option, None, Some, codes, encode_utf8, encode_utf8_all, if◌then◌else◌}
use Rattle.std.specs.List.{last_or}
use Rattle.std.specs.Str.{chars}
use Rattle.regex.specs.Patterns.{Re, WordUnicode, cat_all, char_in, escaped_text, is_word_char, literal, look, members}
use Rattle.regex_syntax.specs.Fold.{in_unicode_fold}

-- whether the text has a word character at this end
abbrev pub is_word_end : Option ℕ → Bool
is_word_end None = false
is_word_end (Some c) = is_word_char c

-- the bound of a word, if whole words are wanted; none at an end without a word character, where
-- the bound would want a word beside the text
abbrev pub bound_at : Bool → Option ℕ → List ℕ
bound_at whole_word end = if whole_word && is_word_end end then codes "\\b" else []

-- the same in the syntax tree
abbrev pub bound_trees_at : Bool → Option ℕ → List Re
bound_trees_at whole_word end = if whole_word && is_word_end end then look WordUnicode ∷ [] else []

-- the flag that ignores case, if that is wanted
abbrev pub case_flag : Bool → List ℕ
case_flag ignore_case = if ignore_case then codes "(?i)" else []

-- the pattern of a text that isn't empty: a backslash is before each character that has a meaning
-- of its own in patterns. The pattern of the empty text is empty, and so no pattern
abbrev pub text_pattern : List ℕ → Bool → Bool → List ℕ
text_pattern [] ignore_case whole_word = []
text_pattern (byte ∷ bytes) ignore_case whole_word =
    let characters = chars (byte ∷ bytes) in
    case_flag ignore_case ++ (bound_at whole_word (slice_get characters 0)
    ++ (encode_utf8_all (escaped_text characters) ++ bound_at whole_word (last_or None characters)))

-- the syntax tree of one character: of it as it is, or of all its cases
abbrev pub character_tree : Bool → ℕ → Re
character_tree ignore_case c = if ignore_case then char_in (members (in_unicode_fold (members (λ d. d == c)))) else literal (encode_utf8 c)

-- the syntax tree of a text: its characters one after another, between the bounds of words
abbrev pub text_tree : List ℕ → Bool → Bool → Re
text_tree text ignore_case whole_word =
    let characters = chars text in
    cat_all (bound_trees_at whole_word (slice_get characters 0)
    ++ (map (character_tree ignore_case) characters ++ bound_trees_at whole_word (last_or None characters)))
