-- Texts with escapes, as lists of bytes. They are read character by character from the front.
use Rattle.std.specs.Prelude.{◌≢◌, ℕ, zero, suc, ◌==◌, Bool, ◌&&◌, if◌then◌else◌, nat_lt, nat_le, List, [], ◌∷◌, ◌++◌, length, drop, chars, encode_utf8, slice_get, slice_index, Option, Some, None, option_map, option_and_then}
use Rattle.std.specs.Char.{is_ascii_hexdigit, len_utf8}
use Rattle.std.specs.List.{after_first, before_first, list_all, position_or_len}
use Rattle.std.specs.Str.Parse.{digits_value}
use lib.Utf8.{scalar}

abbrev pub HasNoBackslash : List ℕ → Type 0
HasNoBackslash [] = Unit {0}
HasNoBackslash (byte ∷ bytes) = (byte ≢ 92) × HasNoBackslash bytes

-- the character whose number the digits write: 1 to 6 hexadecimal digits, not a surrogate
abbrev pub character_numbered : List ℕ → Option ℕ
character_numbered digits =
    if ((nat_lt 0 (length digits) && nat_le (length digits) 6) && list_all (λ byte. is_ascii_hexdigit byte) digits) && scalar (digits_value 16 digits)
    then Some (digits_value 16 digits)
    else None

abbrev pub is_closing : ℕ → Bool
is_closing byte = byte == 125

-- the character of a number in braces, and the text after the first closing brace
unfoldable pub numbered_escape : List ℕ → Option (ℕ × List ℕ)
numbered_escape [] = None
numbered_escape (opening ∷ text) =
    if (opening == 123) && nat_lt (position_or_len is_closing text) (length text)
    then option_map (λ c. (c, after_first is_closing text)) (character_numbered (before_first is_closing text))
    else None

-- the character of the letter `n`, `r`, `t` or `\`
abbrev pub control : ℕ → Option ℕ
control letter =
    if letter == 110 then Some 10 else if letter == 114 then Some 13 else if letter == 116 then Some 9 else if letter == 92 then Some 92 else None

-- the character of a letter after a backslash, or of `u` and a number in braces; and the rest
unfoldable pub escape : List ℕ → Option (ℕ × List ℕ)
escape [] = None
escape (letter ∷ text) = if letter == 117 then numbered_escape text else option_map (λ c. (c, text)) (control letter)

-- the first character of a text, and the text after it
abbrev pub plain_character : List ℕ → Option (ℕ × List ℕ)
plain_character text = option_map (λ c. (c, drop (len_utf8 c) text)) (slice_get (chars text) 0)

-- the first character of a text, written as itself or as an escape, and the text after it
unfoldable pub first_character : List ℕ → Option (ℕ × List ℕ)
first_character [] = None
first_character (byte ∷ text) = if byte == 92 then escape text else plain_character (byte ∷ text)

-- the only character of a text with escapes
abbrev pub with_nothing_after : ℕ × List ℕ → Option ℕ
with_nothing_after p = if length p.1 == 0 then Some p.0 else None

unfoldable pub character : List ℕ → Option ℕ
character text = option_and_then with_nothing_after (first_character text)

-- the tokens of a text with escapes: characters, and the escape `\n`, which ends a line
pub data Token : Type 0 where
  Character : ℕ → Token
  Break : Token

-- the text begins with the escape `\n`
abbrev pub is_break : List ℕ → Bool
is_break text = (slice_index text 0 == 92) && (slice_index text 1 == 110)

abbrev pub token : List ℕ → ℕ → Token
token text c = if is_break text then Break else Character c

-- the tokens of a text; none if there are more than `most`, or a backslash begins no escape
abbrev pub tokens_within : ℕ → List ℕ → Option (List Token)
tokens_within most [] = Some []
tokens_within zero (byte ∷ text) = None
tokens_within (suc most) (byte ∷ text) =
    option_and_then (λ p. option_map (λ more. token (byte ∷ text) p.0 ∷ more) (tokens_within most p.1)) (first_character (byte ∷ text))

unfoldable pub tokens : List ℕ → Option (List Token)
tokens text = tokens_within (length text) text

-- the text of the tokens, with a line feed for each `\n`
abbrev pub text_of_tokens : List Token → List ℕ
text_of_tokens [] = []
text_of_tokens (Character c ∷ tokens) = encode_utf8 c ++ text_of_tokens tokens
text_of_tokens (Break ∷ tokens) = 10 ∷ text_of_tokens tokens

-- the lines with a text before the first of them
abbrev pub in_front : List ℕ → List (List ℕ) → List (List ℕ)
in_front text [] = []
in_front text (line ∷ lines) = (text ++ line) ∷ lines

-- the lines of the tokens, split at each `\n`
abbrev pub lines_of_tokens : List Token → List (List ℕ)
lines_of_tokens [] = [] ∷ []
lines_of_tokens (Character c ∷ tokens) = in_front (encode_utf8 c) (lines_of_tokens tokens)
lines_of_tokens (Break ∷ tokens) = [] ∷ lines_of_tokens tokens

-- the text that a text with escapes writes
unfoldable pub unescaped : List ℕ → Option (List ℕ)
unescaped text = option_map text_of_tokens (tokens text)

-- the lines that a text with escapes writes
unfoldable pub unescaped_lines : List ℕ → Option (List (List ℕ))
unescaped_lines text = option_map lines_of_tokens (tokens text)

-- the lines of the text after an escape `\n`; there are none where there is no such escape
abbrev pub lines_after_escape : Option (List ℕ) → Option (List (List ℕ))
lines_after_escape None = Some []
lines_after_escape (Some text) = unescaped_lines text
