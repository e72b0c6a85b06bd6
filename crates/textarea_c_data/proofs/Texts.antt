-- The texts that C passes.
use Rattle.std.proofs.Common.{◌≡◌, ◌<◌, ◌≤◌, ℕ, true, false, List, Some, None, length, refl, ap, arith}
use Rattle.std.specs.Prelude.{nat_le, slice_range}
use Rattle.std.proofs.lemmas.Bool.Decides.{nat_tests}
use Rattle.std.specs.Str.{IsUtf8, is_utf8}
use Rattle.std.proofs.lemmas.Str.{IsUtf8-from_is_utf8, is_utf8-from_IsUtf8}
use Rattle.textarea_c_data.specs.Texts.{items_between, text_in}
use Rattle.std.proofs.lemmas.Bool.{and_right, false_from_ne_true}

pub text_is : (bytes text : List ℕ) → text ≡ bytes → IsUtf8 bytes → Some text ≡ text_in bytes
unfolding text_in
text_is bytes text same is = let holds : is_utf8 bytes ≡ true = is_utf8-from_IsUtf8 bytes is in rw holds (ap Some same)

pub no_text : (bytes : List ℕ) → (IsUtf8 bytes → ⊥) → None ≡ text_in bytes
unfolding text_in
no_text bytes never = let other : is_utf8 bytes ≡ false = false_from_ne_true (is_utf8 bytes) (λ holds. never (IsUtf8-from_is_utf8 bytes holds)) in rw other refl

-- items past the end of a list are not there
pub past_end : {A : Type 0} (items : List A) (start end : ℕ) → length items < end → items_between items start end ≡ None
unfolding items_between
past_end items start end past = let late : nat_le end (length items) ≡ false = grind (arith, nat_tests) in rw (and_right (nat_le start end) (nat_le end (length items)) late) refl

-- those before it are
pub inside : {A : Type 0} (items : List A) (start end : ℕ) → start ≤ end → end ≤ length items → items_between items start end ≡ Some (slice_range items start end)
unfolding items_between
inside items start end ordered within =
    let one : nat_le start end ≡ true = grind (arith, nat_tests) in let two : nat_le end (length items) ≡ true = grind (arith, nat_tests) in rw (one, two) refl
