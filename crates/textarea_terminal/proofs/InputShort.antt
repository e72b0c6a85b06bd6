-- Keys whose sequences are short are read.
use Rattle.std.proofs.Common.{◌≡◌, ◌≢◌, ℕ, ◌+◌, ◌-◌, ◌*◌, ◌≤◌, true, false, eqb, List, [], ◌∷◌, ◌++◌, length, min, Some, refl, sym, ap, ◌∙◌, arith}
use Rattle.std.proofs.lemmas.List.{append_assoc, length-append}
use Rattle.std.proofs.lemmas.Bool.{ne_eqb, eqb-false}
use Rattle.std.proofs.lemmas.Bool.Decides.{nat_tests}
use Rattle.textarea_data.specs.declared.input.Input.{Input}
use Rattle.textarea_data.specs.declared.input.Key.{Key}
use Rattle.textarea_terminal.specs.InputEvent.{EventValue, input}
use Rattle.textarea_data.specs.Input.{input_of_key}
use Rattle.textarea_terminal.specs.InputKey.{entry, input_with, letter_keys, numbered_keys}
use Rattle.textarea_terminal.specs.InputParameter.{is_digit, number_limit, number_from, number_after, count_of, parameters_of}
use Rattle.textarea_terminal.specs.InputRow.{IsGeneral}
use Rattle.textarea_terminal.specs.InputSequence.{event_of, event_of_one, event_of_two, is_final, sequence_event}
use Rattle.textarea_terminal.specs.InputShort.{AreDigits}
use Rattle.textarea_terminal.specs.InputUnit.{unit_at, after_mark, key_or_sequence, escape_at, single_at}
use Rattle.textarea_terminal.proofs.InputRows.{entry-each}
use Rattle.textarea_terminal.proofs.InputSequences.{general-read, inner-append}
use Rattle.textarea_terminal.proofs.InputUnits.{is_inner-digit}

-- ---- digits

pub in-digits : (d : ℕ) → 48 ≤ d → d ≤ 57 → is_digit d ≡ true
in-digits d h k = grind (arith, nat_tests)

digit-range : (d : ℕ) → is_digit d ≡ true → (48 ≤ d) × (d ≤ 57)
digit-range d h = (grind (arith, nat_tests), grind (arith, nat_tests))

digit-not_dollar : (d : ℕ) → is_digit d ≡ true → d ≢ 36
digit-not_dollar d h e = let range = digit-range d h in omega (arith, range.0, e)

digit-not_mouse : (d : ℕ) → is_digit d ≡ true → eqb d 60 ≡ false
digit-not_mouse d h = let range = digit-range d h in ne_eqb d 60 (λ e. omega (arith, range.1, e))

digit-not_reply : (d : ℕ) → is_digit d ≡ true → eqb d 63 ≡ false
digit-not_reply d h = let range = digit-range d h in ne_eqb d 63 (λ e. omega (arith, range.1, e))

digit-first : (d : ℕ) → is_digit d ≡ true → min number_limit (10 * 0 + (d - 48)) ≡ d - 48
digit-first d h = let range = digit-range d h in omega (arith, range.1)

pub digits-one : (a : ℕ) → is_digit a ≡ true → AreDigits (a ∷ []) (a - 48)
unfolding sequence_event event_of parameters_of number_from number_after count_of
digits-one a h = record {
  inner = ((is_inner-digit a h, digit-not_dollar a h), tt);
  few = omega arith;
  one = λ last other. rw (digit-not_mouse a h, digit-not_reply a h, h, digit-first a h, ne_eqb last 117 other) refl;
  two = λ d last is other. rw (digit-not_mouse a h, digit-not_reply a h, h, digit-first a h, is, digit-first d is, ne_eqb last 117 other) refl;
}

pub digits-two : (a b : ℕ) → is_digit a ≡ true → is_digit b ≡ true → AreDigits (a ∷ b ∷ []) (10 * (a - 48) + (b - 48))
unfolding sequence_event event_of parameters_of number_from number_after count_of
digits-two a b h k =
    let low = digit-range a h in
    let high = digit-range b k in
    let sum : min number_limit (10 * (a - 48) + (b - 48)) ≡ 10 * (a - 48) + (b - 48) = omega (arith, low.1, high.1) in
    record {
      inner = ((is_inner-digit a h, digit-not_dollar a h), ((is_inner-digit b k, digit-not_dollar b k), tt));
      few = omega arith;
      one = λ last other. rw (digit-not_mouse a h, digit-not_reply a h, h, k, digit-first a h, sum, ne_eqb last 117 other) refl;
      two = λ d last is other. rw (digit-not_mouse a h, digit-not_reply a h, h, k, digit-first a h, sum, is, digit-first d is, ne_eqb last 117 other) refl;
    }

-- ---- a number before ~

one-tilde : (n : ℕ) (k : Key) → entry numbered_keys n ≡ Some k → event_of_one n 126 ≡ input (input_of_key k)
unfolding event_of_one
one-tilde n k found = rw found refl

no_paste_one : (digits : List ℕ) → length digits ≤ 2 → digits ≢ 50 ∷ 48 ∷ 48 ∷ []
no_paste_one digits few e = omega (arith, few, ap length e)

pub tilde-read : (digits rest : List ℕ) (n : ℕ) (k : Key) → AreDigits digits n → entry numbered_keys n ≡ Some k → unit_at (27 ∷ 91 ∷ (digits ++ 126 ∷ rest)) ≡ Some (input (input_of_key k), rest)
tilde-read digits rest n k are found =
    let general : IsGeneral digits 126 = record {
      inner_bytes = are.inner;
      short = omega (arith, are.few);
      last_byte = refl;
      no_paste = λ e. no_paste_one digits are.few;
      no_console = λ e. absurd (omega (arith, e));
      no_mouse = λ e. absurd (omega (arith, e));
    } in
    general-read digits 126 rest general ∙ ap (λ (v : EventValue). Some (v, rest)) (are.one 126 (λ e. omega (arith, e)) ∙ one-tilde n k found)

-- ---- a number, a parameter of modifiers and a final byte

pub two-tilde : (n m last : ℕ) (k : Key) → last ≡ 126 → entry numbered_keys n ≡ Some k → event_of_two n m last ≡ input (input_with k m)
unfolding event_of_two
two-tilde n m last k e found = rw e (rw found refl)

letter-not_tilde : (last : ℕ) (k : Key) → entry letter_keys last ≡ Some k → eqb last 126 ≡ false
letter-not_tilde last k found =
    entry-each (λ n x. eqb n 126 ≡ false) letter_keys (refl, (refl, (refl, (refl, (refl, (refl, (refl, (refl, (refl, (refl, tt)))))))))) last k found

pub letter-final : (last : ℕ) (k : Key) → entry letter_keys last ≡ Some k → is_final last ≡ true
letter-final last k found =
    entry-each (λ n x. is_final n ≡ true) letter_keys (refl, (refl, (refl, (refl, (refl, (refl, (refl, (refl, (refl, (refl, tt)))))))))) last k found

letter-not_tab : (last : ℕ) (k : Key) → entry letter_keys last ≡ Some k → eqb last 90 ≡ false
letter-not_tab last k found =
    entry-each (λ n x. eqb n 90 ≡ false) letter_keys (refl, (refl, (refl, (refl, (refl, (refl, (refl, (refl, (refl, (refl, tt)))))))))) last k found

pub letter-not_code : (last : ℕ) (k : Key) → entry letter_keys last ≡ Some k → last ≢ 117
letter-not_code last k found =
    let no = entry-each (λ n x. eqb n 117 ≡ false) letter_keys (refl, (refl, (refl, (refl, (refl, (refl, (refl, (refl, (refl, (refl, tt)))))))))) last k found in
    eqb-false last 117 no

pub two-letter : (n m last : ℕ) (k : Key) → n ≡ 1 → entry letter_keys last ≡ Some k → event_of_two n m last ≡ input (input_with k m)
unfolding event_of_two
two-letter n m last k e found = rw e (rw (letter-not_tilde last k found, letter-not_tab last k found, found) refl)

no_paste_two : (digits : List ℕ) (d : ℕ) → length digits ≤ 2 → digits ++ 59 ∷ d ∷ [] ≢ 50 ∷ 48 ∷ 48 ∷ []
no_paste_two [] d few e = omega (arith, ap length e)
no_paste_two (a ∷ []) d few e = let n : ℕ = 59 in let same : n ≡ 48 = (cc) in omega (arith, same)
no_paste_two (a ∷ b ∷ []) d few e = omega (arith, ap length e)
no_paste_two (a ∷ b ∷ c ∷ digits) d few e = omega (arith, few)

pub modified-read : (digits rest : List ℕ) (n d last : ℕ) (i : Input) → AreDigits digits n → is_digit d ≡ true → is_final last ≡ true → last ≢ 117 → event_of_two n (d - 48) last ≡ input i →
    unit_at (27 ∷ 91 ∷ (digits ++ 59 ∷ d ∷ last ∷ rest)) ≡ Some (input i, rest)
modified-read digits rest n d last i are is final other event =
    let inner = digits ++ 59 ∷ d ∷ [] in
    let long = length-append digits (59 ∷ d ∷ []) in
    let general : IsGeneral inner last = record {
      inner_bytes = inner-append digits (59 ∷ d ∷ []) are.inner ((refl, λ e. omega (arith, e)), ((is_inner-digit d is, digit-not_dollar d is), tt));
      short = omega (arith, are.few, long);
      last_byte = final;
      no_paste = λ e. no_paste_two digits d are.few;
      no_console = λ e empty. omega (arith, long, ap length empty);
      no_mouse = λ e empty. omega (arith, long, ap length empty);
    } in
    ap (λ (xs : List ℕ). unit_at (27 ∷ 91 ∷ xs)) (sym (append_assoc digits (59 ∷ d ∷ []) (last ∷ rest)))
    ∙ general-read inner last rest general ∙ ap (λ (v : EventValue). Some (v, rest)) (are.two d last is other ∙ event)

-- ---- a letter after ESC O

pub single-read : (letter : ℕ) (rest : List ℕ) (k : Key) → entry letter_keys letter ≡ Some k → unit_at (27 ∷ 79 ∷ letter ∷ rest) ≡ Some (input (input_of_key k), rest)
unfolding unit_at after_mark key_or_sequence escape_at single_at
single-read letter rest k found =
    entry-each (λ n x. unit_at (27 ∷ 79 ∷ n ∷ rest) ≡ Some (input (input_of_key x), rest)) letter_keys
    (refl, (refl, (refl, (refl, (refl, (refl, (refl, (refl, (refl, (refl, tt)))))))))) letter k found
