-- Positions in the order of the text.
use Rattle.std.proofs.Common.{◌≡◌, ◌<◌, true, List, arith, inl, inr}
use Rattle.std.proofs.lemmas.Bool.{cases_lt}
use Rattle.std.proofs.lemmas.Bool.Decides.{nat_tests}
use Rattle.textarea_document.specs.Prelude.{Symbol, Place, IsPlace, IsUpTo, index_of, is_before}
use Rattle.textarea_document.proofs.Ranges.{up_to_from_index}

-- a position that is before another is not after it
not_after : (first second : Place) → is_before first second ≡ true → IsUpTo second first → ⊥
not_after first second e up = grind (arith, nat_tests)

-- a position that is before another has the lesser index
pub index_before : (text : List Symbol) (first second : Place) → IsPlace text first → IsPlace text second → is_before first second ≡ true → index_of text first < index_of text second
index_before text first second h h' e =
    elim (cases_lt (index_of text first) (index_of text second)) [
      | inl less ↦ less
      | inr up_to ↦ absurd (not_after first second e (up_to_from_index text second first h' h up_to))
    ]
