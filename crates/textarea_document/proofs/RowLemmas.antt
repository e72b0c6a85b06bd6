-- Searches over lines: for one that has a word, and for one where a paragraph begins.
use Rattle.std.proofs.Common.{◌≡◌, ℕ, ◌==◌, ◌<◌, nat_lt, ◌&&◌, Bool, List, [], ◌∷◌, length, encode_utf8_all, sym, ap, refl, ◌∙◌, arith, Option, String, string_len, string_bytes}
use Rattle.std.proofs.lemmas.Bool.Decides.{nat_tests}
use Rattle.std.proofs.lemmas.Str.{encodes-chars, length-le-encodes, IsUtf8-string_bytes}
use Rattle.textarea_document.specs.Prelude.{is_some, characters_of, line_of, is_empty_line, is_paragraph_start, is_later_paragraph_start, is_earlier_paragraph_start, next_word_last, is_later_word_row}

-- ---- empty lines

encoded_empty : (cs : List ℕ) → (length (encode_utf8_all cs) == 0) ≡ is_empty_line cs
encoded_empty [] = refl
encoded_empty (c ∷ cs) = grind (arith, nat_tests, length-le-encodes (c ∷ cs))

-- a `String` without bytes has no character, and one with bytes has some
pub is_empty_line-string : {Z : Type 0} (line : String Z) → (string_len line == 0) ≡ is_empty_line (characters_of line)
is_empty_line-string line =
    ap (λ (n : ℕ). n == 0) line.bytes.ok.0
    ∙ ap (λ (bs : List ℕ). length bs == 0) (sym (encodes-chars (string_bytes line) (IsUtf8-string_bytes line))) ∙ encoded_empty (characters_of line)

-- ---- what the searches know of a line

less_and : (m n : ℕ) (b : Bool) → m < n → (nat_lt m n && b) ≡ b
less_and m n b h = grind (arith, nat_tests)

pub is_later_word_row-at : (rows : List (List ℕ)) (start row : ℕ) (found : Option ℕ) → start < row → found ≡ next_word_last (line_of rows row) 0 → is_later_word_row rows start row ≡ is_some found
is_later_word_row-at rows start row found later e = less_and start row (is_some (next_word_last (line_of rows row) 0)) later ∙ ap is_some (sym e)

pub is_later_paragraph_start-at : (rows : List (List ℕ)) (start row : ℕ) (b : Bool) → start < row → is_paragraph_start rows row ≡ b → is_later_paragraph_start rows start row ≡ b
is_later_paragraph_start-at rows start row b later e = less_and start row (is_paragraph_start rows row) later ∙ e

pub is_earlier_paragraph_start-at : (rows : List (List ℕ)) (start row : ℕ) (b : Bool) → row < start → is_paragraph_start rows row ≡ b → is_earlier_paragraph_start rows start row ≡ b
is_earlier_paragraph_start-at rows start row b earlier e = less_and row start (is_paragraph_start rows row) earlier ∙ e
