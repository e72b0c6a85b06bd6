-- Two positions in the order of the text, and stretches that are replaced.
use Rattle.std.proofs.Common.{◌≡◌, ◌≤◌, ◌==◌, ℕ, Bool, true, false, cond, List, [], ◌∷◌, length, arith, refl}
use Rattle.std.proofs.lemmas.Bool.Decides.{nat_tests}
use Rattle.textarea_document.specs.Prelude.{Symbol, Place, IsPlace, IsUpTo, index_of, is_before, made_at_once}
use Rattle.textarea_document.specs.DocumentState.{DocumentState}
use Rattle.textarea_document.specs.Replacing.{all_replaced, first_place, last_place, replaced_in_turn}
use Rattle.textarea_document.proofs.Orders.{index_before}
use Rattle.textarea_document.proofs.Ranges.{index_from_up_to}

-- both are among the two
both_places : (P : Place → Type 0) (one other : Place) → P one → P other → P (first_place one other) × P (last_place one other)
both_places P one other h k = by (is_before other one)
  where
    by : (b : Bool) → P (cond b other one) × P (cond b one other)
    by true = (k, h)
    by false = (h, k)

pub ends_are_places : (text : List Symbol) (one other : Place) → IsPlace text one → IsPlace text other → IsPlace text (first_place one other) × IsPlace text (last_place one other)
ends_are_places text one other h k = both_places (IsPlace text) one other h k

not_before : (one other : Place) → is_before other one ≡ false → IsUpTo one other
not_before one other e = (grind (arith, nat_tests), λ same. grind (arith, nat_tests))

pub ends_in_order : (text : List Symbol) (one other : Place) → IsPlace text one → IsPlace text other → index_of text (first_place one other) ≤ index_of text (last_place one other)
ends_in_order text one other h k = by (is_before other one) refl
  where
    by : (b : Bool) → is_before other one ≡ b → index_of text (cond b other one) ≤ index_of text (cond b one other)
    by true e = omega (arith, index_before text other one k h e)
    by false e = index_from_up_to text one other h k (not_before one other e)

-- where there are stretches, they are replaced in a group
pub some_replaced : (document : DocumentState) (stretches : List (ℕ × ℕ)) (symbols : List Symbol) (now : ℕ) → (length stretches == 0) ≡ false →
    made_at_once (λ copy. replaced_in_turn copy stretches symbols now) document ≡ all_replaced document stretches symbols now
unfolding all_replaced
some_replaced document [] symbols now some = absurd cc
some_replaced document (stretch ∷ rest) symbols now some = refl
