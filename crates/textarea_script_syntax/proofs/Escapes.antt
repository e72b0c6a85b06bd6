-- How escapes are read.
use Rattle.std.proofs.Common.{arith, ◌≡◌, ◌≢◌, ℕ, ◌<◌, ◌≤◌, ◌^◌, Bool, true, List, [], ◌∷◌, ◌++◌, Some, None, Result, Ok, Err, length, drop, nat_lt, ◌&&◌, ◌==◌, if◌then◌else◌, option_map, refl, ap, sym, ◌∙◌, subst, lit<, eqb-true, zero-add}
use Rattle.std.specs.Prelude.{chars, encode_utf8, slice_get}
use Rattle.std.specs.Char.{digit_value, is_ascii_hexdigit, len_utf8}
use Rattle.std.proofs.lemmas.Str.{chars-nil, char_from_byte, drop_past_char, encode_ascii}
use Rattle.std.specs.List.{after_first, before_first, list_all, position_or_len}
use Rattle.std.specs.Str.Parse.{AllDigits, IsNumeral, digits_value, without_leading_plus, ParsesUnsigned}
use Rattle.std.specs.Result.{result_ok}
use Rattle.std.proofs.Math.Nat.{pow-le-pow_right}
use Rattle.std.proofs.lemmas.Bool.{and_parts, false_from_ne_true}
use Rattle.std.proofs.lemmas.Bool.Decides.{nat_tests}
use Rattle.std.proofs.lemmas.List.{nil_from_length}
use Rattle.std.proofs.lemmas.Int.Digits.{digits_value-lt}
use Rattle.textarea_script_syntax.specs.Escapes.{character_numbered, control, escape, first_character, is_closing, numbered_escape, plain_character}
use borrow.Author.Tests.{ne_eqb}

hex_digit : (c : ℕ) → is_ascii_hexdigit c ≡ true → (digit_value c < 16) × (c ≢ 43)
hex_digit c is = (grind (arith, nat_tests), grind (arith, nat_tests))

hex_digits : (ds : List ℕ) → list_all (λ byte. is_ascii_hexdigit byte) ds ≡ true → AllDigits 16 ds
hex_digits [] all = tt
hex_digits (c ∷ cs) all =
    let p = and_parts (is_ascii_hexdigit c) (list_all (λ byte. is_ascii_hexdigit byte) cs) all in
    ((hex_digit c p.0).0, hex_digits cs p.1)

no_plus : (c : ℕ) (cs : List ℕ) → c ≢ 43 → without_leading_plus (c ∷ cs) ≡ c ∷ cs
no_plus c cs other = ap (λ (test : Bool). drop (if test then 1 else 0) (c ∷ cs)) (false_from_ne_true (c == 43) (λ same. other (eqb-true c 43 same)))

hex_unparsed : {E : Type 0} → (ds : List ℕ) (error : E) → ParsesUnsigned 32 16 ds (Err error) → list_all (λ byte. is_ascii_hexdigit byte) ds ≡ true → length ds ≤ 6 → character_numbered ds ≡ None
hex_unparsed [] error never all short = refl
hex_unparsed (c ∷ cs) error never all short =
    let digits = hex_digits (c ∷ cs) all in
    let p = and_parts (is_ascii_hexdigit c) (list_all (λ byte. is_ascii_hexdigit byte) cs) all in
    let same = no_plus c cs (hex_digit c p.0).1 in
    let less : digits_value 16 (c ∷ cs) < 16 ^ length (c ∷ cs) = digits_value-lt 16 (c ∷ cs) digits in
    let power : 16 ^ length (c ∷ cs) ≤ 16 ^ 6 = pow-le-pow_right {n = 16} (lit< tt) {i = length (c ∷ cs)} {j = 6} short in
    let small : digits_value 16 (c ∷ cs) < 2 ^ 32 = omega arith in
    absurd (never (subst (λ (t : List ℕ). IsNumeral 16 t × (digits_value 16 t < 2 ^ 32)) (sym same) ((omega arith, digits), small)))

-- 1 to 6 hexadecimal digits are a number of 32 bits
pub hex_parsed : {E : Type 0} → (ds : List ℕ) (r : Result ℕ E) → ParsesUnsigned 32 16 ds r → result_ok r ≡ None → list_all (λ byte. is_ascii_hexdigit byte) ds ≡ true → length ds ≤ 6 → character_numbered ds ≡ None
hex_parsed ds (Ok n) parsed none all short = let never : Some n ≡ None = none in cc
hex_parsed ds (Err error) parsed none all short = hex_unparsed ds error parsed all short

-- ---- a number in braces

pub numbered_bare : (text : List ℕ) → ((rest : List ℕ) → text ≢ 123 ∷ rest) → numbered_escape text ≡ None
unfolding numbered_escape
numbered_bare [] bare = refl
numbered_bare (opening ∷ text) bare =
    ap (λ (test : Bool). if test && nat_lt (position_or_len is_closing text) (length text) then option_map (λ c. (c, after_first is_closing text)) (character_numbered (before_first is_closing text)) else None)
    (ne_eqb opening 123 (λ same. bare text (ap (λ (b : ℕ). b ∷ text) same)))

pub numbered_open : (text rest : List ℕ) → text ≡ 123 ∷ rest → position_or_len is_closing rest ≡ length rest → numbered_escape text ≡ None
unfolding numbered_escape
numbered_open text rest is none =
    ap numbered_escape is
    ∙ ap (λ (test : Bool). if test then option_map (λ c. (c, after_first is_closing rest)) (character_numbered (before_first is_closing rest)) else None)
    (false_from_ne_true (nat_lt (position_or_len is_closing rest) (length rest)) (λ less. grind (arith, nat_tests)))

pub numbered_closed : (text rest digits rest_after : List ℕ) → text ≡ 123 ∷ rest → position_or_len is_closing rest < length rest → digits ≡ before_first is_closing rest
    → rest_after ≡ after_first is_closing rest → numbered_escape text ≡ option_map (λ c. (c, rest_after)) (character_numbered digits)
unfolding numbered_escape
numbered_closed text rest digits rest_after is some before after =
    let test : nat_lt (position_or_len is_closing rest) (length rest) ≡ true = grind (arith, nat_tests) in
    ap numbered_escape is
    ∙ ap (λ (test : Bool). if test then option_map (λ c. (c, after_first is_closing rest)) (character_numbered (before_first is_closing rest)) else None) test
    ∙ ap (λ (b : List ℕ). option_map (λ c. (c, b)) (character_numbered (before_first is_closing rest))) (sym after)
    ∙ ap (λ (d : List ℕ). option_map (λ c. (c, rest_after)) (character_numbered d)) (sym before)

-- ---- an escape

pub escape_nothing : (text : List ℕ) → length text ≡ 0 → escape text ≡ None
unfolding escape
escape_nothing text none = ap escape (nil_from_length text none)

-- a text that begins with an ASCII letter
at_letter : (letter : ℕ) (text rest : List ℕ) → letter < 128 → text ≡ encode_utf8 letter ++ rest → text ≡ letter ∷ rest
at_letter letter text rest small is = is ∙ ap (λ (b : List ℕ). b ++ rest) (encode_ascii letter small)

pub escape_letter : (letter : ℕ) (text rest : List ℕ) → letter < 128 → text ≡ encode_utf8 letter ++ rest → escape text ≡ escape (letter ∷ rest)
escape_letter letter text rest small is = ap escape (at_letter letter text rest small is)

pub escape_number : (text rest : List ℕ) → text ≡ encode_utf8 117 ++ rest → escape text ≡ numbered_escape rest
unfolding escape
escape_number text rest is = ap escape (at_letter 117 text rest (lit< tt) is)

-- if the first character isn't a letter, the first byte isn't that letter
first_byte : (byte c letter : ℕ) (text rest : List ℕ) → byte ∷ text ≡ encode_utf8 c ++ rest → letter < 128 → c ≢ letter → byte ≢ letter
first_byte byte c letter text rest is small other same =
    other (char_from_byte (byte ∷ text) rest c is (omega arith) (omega arith) ∙ same)

no_control : (letter : ℕ) → letter ≢ 110 → letter ≢ 114 → letter ≢ 116 → letter ≢ 92 → control letter ≡ None
no_control letter n r t b =
    let e = ne_eqb letter 110 n in
    let f = ne_eqb letter 114 r in
    let g = ne_eqb letter 116 t in
    let h = ne_eqb letter 92 b in
    rw (e, f, g, h)

pub escape_other : (text rest : List ℕ) (c : ℕ) → text ≡ encode_utf8 c ++ rest → c ≢ 110 → c ≢ 114 → c ≢ 116 → c ≢ 92 → c ≢ 117 → escape text ≡ None
unfolding escape
escape_other [] rest c is n r t b u = refl
escape_other (letter ∷ text) rest c is n r t b u =
    ap (λ (test : Bool). if test then numbered_escape text else option_map (λ d. (d, text)) (control letter)) (ne_eqb letter 117 (first_byte letter c 117 text rest is (lit< tt) u))
    ∙ ap (option_map (λ d. (d, text))) (no_control letter (first_byte letter c 110 text rest is (lit< tt) n) (first_byte letter c 114 text rest is (lit< tt) r)
    (first_byte letter c 116 text rest is (lit< tt) t) (first_byte letter c 92 text rest is (lit< tt) b))

-- ---- the first character

pub first_nothing : (text : List ℕ) → length text ≡ 0 → first_character text ≡ None
unfolding first_character
first_nothing text none = ap first_character (nil_from_length text none)

pub first_escaped : (text rest : List ℕ) → text ≡ encode_utf8 92 ++ rest → first_character text ≡ escape rest
unfolding first_character
first_escaped text rest is = ap first_character (at_letter 92 text rest (lit< tt) is)

pub first_plain : (text rest : List ℕ) (c : ℕ) → text ≡ encode_utf8 c ++ rest → Some c ≡ slice_get (chars text) 0 → c ≢ 92 → first_character text ≡ Some (c, rest)
unfolding first_character
first_plain [] rest c is first other =
    let none : Some c ≡ None = first ∙ ap (λ (cs : List ℕ). slice_get cs 0) chars-nil in cc
first_plain (byte ∷ text) rest c is first other =
    ap (λ (test : Bool). if test then escape text else plain_character (byte ∷ text)) (ne_eqb byte 92 (first_byte byte c 92 text rest is (lit< tt) other))
    ∙ ap (option_map (λ d. (d, drop (len_utf8 d) (byte ∷ text)))) (sym first)
    ∙ ap (λ (rest_after : List ℕ). Some (c, rest_after)) (subst (λ (k : ℕ). drop k (byte ∷ text) ≡ rest) (zero-add (len_utf8 c)) (drop_past_char (byte ∷ text) rest 0 c is))
