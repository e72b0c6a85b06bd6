-- How `parse` reads numbers.
use Rattle.std.proofs.Common.{arith, rules, ◌≡◌, ℕ, ◌+◌, ◌<◌, ◌≤◌, ◌^◌, Bool, true, false, List, [], ◌∷◌, Option, Some, None, Result, Ok, Err, length, nat_lt, ◌&&◌, if◌then◌else◌, refl, ap}
use Rattle.std.proofs.Common.{sym, ◌∙◌, Bor, ◌==◌, ◌≢◌, ℤ, pos, neg_ℤ, slice_index, drop, option_map, unwrap_or, MatchOption, eqb-true, lit<}
use Rattle.std.specs.Char.{is_ascii_digit}
use Rattle.std.specs.List.{list_all}
use Rattle.std.specs.Str.{all_ascii_digits}
use Rattle.std.specs.Str.Parse.{digits_value, ParsesUnsigned, ParsesSigned}
use Rattle.std.specs.Result.{OkIff, result_ok}
use Rattle.std.proofs.lemmas.Str.Parse.{IsNumeralModel, numerals_by_value, tells_all_ascii_digits, parse_digits, parse_signed_digits, parse_signed_minus}
use Rattle.std.proofs.lemmas.Str.Pattern.{strip_prefix_char}
use Rattle.std.specs.Str.Pattern.{FindsCharPrefix}
use mir.Syntax.{w16}
use Rattle.std.proofs.lemmas.Bool.{false_from_ne_true}
use Rattle.std.proofs.lemmas.Bool.Decides.{nat_tests}
use Rattle.textarea_script_syntax.specs.Arguments.{number_below, signed_number}
use borrow.Author.Tests.{ltb-true}

digits_same : (ds : List ℕ) → list_all (λ byte. is_ascii_digit byte) ds ≡ all_ascii_digits ds
digits_same [] = refl
digits_same (c ∷ cs) = ap (λ rest. is_ascii_digit c && rest) (digits_same cs)

pub numerals : IsNumeralModel (λ ds. all_ascii_digits ds ≡ true) (digits_value 10)
numerals = numerals_by_value (λ ds. all_ascii_digits ds ≡ true) tells_all_ascii_digits

pub all_digits : (ds : List ℕ) → list_all (λ byte. is_ascii_digit byte) ds ≡ true → all_ascii_digits ds ≡ true
all_digits ds all = sym (digits_same ds) ∙ all

all_true : (a b c : Bool) (v : ℕ) → a ≡ true → b ≡ true → c ≡ true → (if (a && b) && c then Some v else None) ≡ Some v
all_true a b c v p q r = search (rules, p, q, r)

left_out : (a b c : Bool) (v : ℕ) → (a ≡ true → c ≡ true → ⊥) → (if (a && b) && c then Some v else None) ≡ None
left_out true true true v never = absurd (never refl refl)
left_out true true false v never = refl
left_out true false c v never = refl
left_out false b c v never = refl

number_read : (bound : ℕ) (bs : List ℕ) → list_all (λ byte. is_ascii_digit byte) bs ≡ true → 0 < length bs → digits_value 10 bs < bound → number_below bound bs ≡ Some (digits_value 10 bs)
unfolding number_below
number_read bound bs all some small =
    let a : nat_lt 0 (length bs) ≡ true = grind (arith, nat_tests) in
    let c : nat_lt (digits_value 10 bs) bound ≡ true = grind (arith, nat_tests) in
    all_true (nat_lt 0 (length bs)) (list_all (λ byte. is_ascii_digit byte) bs) (nat_lt (digits_value 10 bs) bound) (digits_value 10 bs) a all c

number_unread : (bound : ℕ) (bs : List ℕ) → ((0 < length bs) × (digits_value 10 bs < bound) → ⊥) → number_below bound bs ≡ None
unfolding number_below
number_unread bound bs never =
    left_out (nat_lt 0 (length bs)) (list_all (λ byte. is_ascii_digit byte) bs) (nat_lt (digits_value 10 bs) bound) (digits_value 10 bs)
    (λ a c. never (ltb-true 0 (length bs) a, ltb-true (digits_value 10 bs) bound c))

parsed : {E : Type 0} → (bound : ℕ) (bs : List ℕ) (r : Result ℕ E) → OkIff r ((0 < length bs) × (digits_value 10 bs < bound)) (digits_value 10 bs) → list_all (λ byte. is_ascii_digit byte) bs ≡ true → result_ok r ≡ number_below bound bs
parsed bound bs (Ok n) is all = ap Some is.1 ∙ sym (number_read bound bs all is.0.0 is.0.1)
parsed bound bs (Err e) is all = sym (number_unread bound bs is)

-- a text of digits only is parsed as its number
pub number_parsed : {E : Type 0} → (k : ℕ) (bs : List ℕ) (r : Result ℕ E) → ParsesUnsigned k 10 bs r → list_all (λ byte. is_ascii_digit byte) bs ≡ true → result_ok r ≡ number_below (2 ^ k) bs
number_parsed k bs r h all = parsed (2 ^ k) bs r (parse_digits numerals k bs r h (all_digits bs all)) all

number_letters : (bound : ℕ) (ds : List ℕ) → list_all (λ byte. is_ascii_digit byte) ds ≡ false → number_below bound ds ≡ None
unfolding number_below
number_letters bound ds some =
    elim (nat_lt 0 (length ds)) as (λ test. (if (test && list_all (λ byte. is_ascii_digit byte) ds) && nat_lt (digits_value 10 ds) bound then Some (digits_value 10 ds) else None) ≡ None) [
      | true ↦ ap (λ test. if test && nat_lt (digits_value 10 ds) bound then Some (digits_value 10 ds) else None) some
      | false ↦ refl
    ]

-- ---- a sign

-- the text after a `-` at the front, or the whole text
abbrev pub after_minus : Bool → List ℕ → List ℕ
after_minus minus text = if minus then drop 1 text else text

abbrev pub has_minus : List ℕ → Bool
has_minus text = slice_index text 0 == 45

no_minus : (text : List ℕ) → ((rest : List ℕ) → text ≢ 45 ∷ rest) → has_minus text ≡ false
no_minus [] other = refl
no_minus (byte ∷ text) other = false_from_ne_true (byte == 45) (λ same. other text (ap (λ (b : ℕ). b ∷ text) (eqb-true byte 45 same)))

minus_stripped : (text : Bor (List ℕ)) (r : Option (Bor (List ℕ))) → MatchOption r ((rest : List ℕ) → text.now ≢ 45 ∷ rest) (λ x. text.now ≡ 45 ∷ x.now)
    → (unwrap_or r text).now ≡ after_minus (has_minus text.now) text.now
minus_stripped text None other = ap (λ test. after_minus test text.now) (sym (no_minus text.now other))
minus_stripped text (Some rest) is = sym (ap (λ (t : List ℕ). after_minus (has_minus t) t) is)

signed_read : {E : Type 0} → (f : ℕ → ℤ) (bound : ℕ) (ds : List ℕ) (r : Result ℤ E) → OkIff r ((0 < length ds) × (digits_value 10 ds < bound)) (f (digits_value 10 ds))
    → list_all (λ byte. is_ascii_digit byte) ds ≡ true → result_ok r ≡ option_map f (number_below bound ds)
signed_read f bound ds (Ok n) is all = ap Some is.1 ∙ sym (ap (option_map f) (number_read bound ds all is.0.0 is.0.1))
signed_read f bound ds (Err e) is all = sym (ap (option_map f) (number_unread bound ds is))

at_most : {E : Type 0} → (f : ℕ → ℤ) (bound : ℕ) (ds : List ℕ) (r : Result ℤ E) → OkIff r ((all_ascii_digits ds ≡ true) × (0 < length ds) × (digits_value 10 ds ≤ bound))
    (f (digits_value 10 ds)) → list_all (λ byte. is_ascii_digit byte) ds ≡ true → OkIff r ((0 < length ds) × (digits_value 10 ds < bound + 1)) (f (digits_value 10 ds))
at_most f bound ds (Ok n) is all = ((is.0.1, omega (arith, is.0.2)), is.1)
at_most f bound ds (Err e) is all = λ (q : (0 < length ds) × (digits_value 10 ds < bound + 1)). is (all_digits ds all, q.0, omega (arith, q.1))

-- a text is parsed as a signed number if only digits follow its sign
pub signed_parsed : {E : Type 0} → (bs : List ℕ) (r : Result ℤ E) → ParsesSigned w16 10 bs r → list_all (λ byte. is_ascii_digit byte) (after_minus (has_minus bs) bs) ≡ true → result_ok r ≡ signed_number bs
unfolding signed_number
signed_parsed bs r h all =
    let read = λ (minus : Bool). if minus then option_map (λ n. neg_ℤ (pos n)) (number_below (2 ^ 15 + 1) (drop 1 bs)) else option_map pos (number_below (2 ^ 15) bs) in
    elim (has_minus bs) as (λ minus. has_minus bs ≡ minus → list_all (λ byte. is_ascii_digit byte) (after_minus minus bs) ≡ true → result_ok r ≡ read minus) [
      | true ↦ λ is digits. signed_read (λ n. neg_ℤ (pos n)) (2 ^ 15 + 1) (drop 1 bs) r (at_most (λ n. neg_ℤ (pos n)) (2 ^ 15) (drop 1 bs) r (parse_signed_minus numerals w16 bs r h (eqb-true (slice_index bs 0) 45 is)) digits) digits
      | false ↦ λ is digits. signed_read pos (2 ^ 15) bs r (parse_signed_digits numerals w16 bs r h (all_digits bs digits)) digits
    ] refl all

pub signed_letters : (bs : List ℕ) → list_all (λ byte. is_ascii_digit byte) (after_minus (has_minus bs) bs) ≡ false → signed_number bs ≡ None
unfolding signed_number
signed_letters bs some =
    let read = λ (minus : Bool). if minus then option_map (λ n. neg_ℤ (pos n)) (number_below (2 ^ 15 + 1) (drop 1 bs)) else option_map pos (number_below (2 ^ 15) bs) in
    elim (has_minus bs) as (λ minus. list_all (λ byte. is_ascii_digit byte) (after_minus minus bs) ≡ false → read minus ≡ None) [
      | true ↦ λ letters. ap (option_map (λ n. neg_ℤ (pos n))) (number_letters (2 ^ 15 + 1) (drop 1 bs) letters)
      | false ↦ λ letters. ap (option_map pos) (number_letters (2 ^ 15) bs letters)
    ] some

-- the result of `strip_prefix` of a `-`, or the whole text where there is none
pub stripped : (text : Bor (List ℕ)) (r : Option (Bor (List ℕ))) (digits : Bor (List ℕ)) → MatchOption r (FindsCharPrefix 45 text.now None)
    (λ x. (n : ℕ) × FindsCharPrefix 45 text.now (Some n) × (x.now ≡ drop n text.now) × (length x.now + n ≡ length text.now))
    → digits ≡ unwrap_or r text → digits.now ≡ after_minus (has_minus text.now) text.now
stripped text r digits cases is = ap (λ (b : Bor (List ℕ)). b.now) is ∙ minus_stripped text r (strip_prefix_char 45 text.now r cases (lit< tt))
