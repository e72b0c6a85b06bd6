-- The columns of a text are at most twice its bytes, and a character of printable ASCII takes one.
use Rattle.std.proofs.Common.{◌≡◌, ℕ, ◌*◌, ◌<◌, ◌≤◌, false, List, [], ◌∷◌, length, sum_by, ap, arith, length-append}
use Rattle.std.specs.Char.{is_control, len_utf8}
use Rattle.std.specs.Str.{chars, IsUtf8}
use Rattle.std.specs.Prelude.{encode_utf8, encode_utf8_all}
use Rattle.std.proofs.lemmas.Bool.Decides.{nat_tests}
use Rattle.std.proofs.lemmas.List.Sums.{sum_by-cons}
use Rattle.std.proofs.lemmas.List.Elements.{All-cons, All-nil}
use Rattle.std.proofs.lemmas.Str.{chars-IsAscii, length-encode, encodes-chars}
use Rattle.std.proofs.lemmas.Str.Ascii.{IsAscii-from_all}
use Rattle.unicode_width.specs.Width.{char_width}
use Rattle.unicode_width.proofs.Rules.{width_or_zero-le}
use Rattle.textarea_paint.specs.Columns.{char_columns, columns_of}
use Rattle.textarea_paint.specs.Plain.{IsPrintable}

-- a character of one byte takes at most one column, and any other at most three
pub char_columns-le : (c : ℕ) → char_columns c ≤ 2 * len_utf8 c
unfolding char_width
char_columns-le c = grind (arith, nat_tests, width_or_zero-le false c)

sum_by-char_columns-le : (cs : List ℕ) → sum_by char_columns cs ≤ 2 * length (encode_utf8_all cs)
sum_by-char_columns-le [] = omega arith
sum_by-char_columns-le (c ∷ cs) =
    omega (arith, sum_by-cons char_columns c cs, char_columns-le c, length-encode c, length-append (encode_utf8 c) (encode_utf8_all cs), sum_by-char_columns-le cs)

pub columns-le : (text : List ℕ) → IsUtf8 text → sum_by char_columns (chars text) ≤ 2 * length text
columns-le text utf8 = omega (arith, sum_by-char_columns-le (chars text), ap length (encodes-chars text utf8))

pub chars-ascii : (byte : ℕ) → byte < 128 → chars (byte ∷ []) ≡ byte ∷ []
chars-ascii byte ascii =
    chars-IsAscii (byte ∷ []) (IsAscii-from_all (byte ∷ []) (All-cons (λ b. b < 128) byte [] ascii (All-nil (λ b. b < 128))))

not_control : (byte : ℕ) → IsPrintable byte → is_control byte ≡ false
not_control byte printable = let from = printable.0 in let to = printable.1 in grind (arith, nat_tests)

one_column : (byte : ℕ) → IsPrintable byte → char_columns byte ≡ 1
unfolding char_width
one_column byte printable = let from = printable.0 in let to = printable.1 in grind (arith, nat_tests)

pub columns_of-plain : (byte : ℕ) → IsPrintable byte → columns_of (byte ∷ []) ≡ 1
unfolding columns_of
columns_of-plain byte printable =
    rw (chars-ascii byte (omega (arith, printable.1)), not_control byte printable) (omega (arith, one_column byte printable))
