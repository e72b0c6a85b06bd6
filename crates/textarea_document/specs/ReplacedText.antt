-- The text after stretches of it are replaced, as one reads it from the text before.
use Rattle.std.specs.Prelude.{ℕ, ◌-◌, ◌≤◌, List, [], ◌∷◌, ◌++◌, All, length, take, drop}
use Rattle.textarea_text.specs.Text.{Symbol}
use Rattle.textarea_text.specs.Place.{Place, end}
use Rattle.textarea_data.specs.declared.range.AtomicRange.{AtomicRange}
use Rattle.textarea_ranges.specs.Lookup.{IsInside}
use Rattle.textarea_document.specs.DocumentState.{DocumentState}

-- What is left of a text after its first `passed` symbols, with the symbols in place of each of the
-- stretches. A stretch is given by the numbers of symbols before its start and before its end in the
-- whole text.
abbrev pub with_replaced : List Symbol → ℕ → List (ℕ × ℕ) → List Symbol → List Symbol
with_replaced left passed [] symbols = left
with_replaced left passed (stretch ∷ rest) symbols =
    take (stretch.0 - passed) left ++ (symbols ++ with_replaced (drop (stretch.1 - passed) left) stretch.1 rest symbols)

-- no range strictly contains the position
abbrev pub IsOutside : List AtomicRange → Place → Type 0
IsOutside ranges place = All (λ range. ¬ IsInside place range) ranges

-- The stretches are in order, and in what is left of a text after its first `passed` symbols, which
-- end at the position; neither end of one is strictly inside a range.
abbrev pub AreStretches : List AtomicRange → Place → List Symbol → ℕ → List (ℕ × ℕ) → Type 0
AreStretches ranges place left passed [] = Unit {0}
AreStretches ranges place left passed (stretch ∷ rest) =
    (passed ≤ stretch.0) × (stretch.0 ≤ stretch.1) × (stretch.1 - passed ≤ length left)
    × IsOutside ranges (end place (take (stretch.0 - passed) left))
    × IsOutside ranges (end place (take (stretch.1 - passed) left))
    × AreStretches ranges (end place (take (stretch.1 - passed) left)) (drop (stretch.1 - passed) left) stretch.1 rest

-- the same in the whole text of a document
abbrev pub AreReplaceable : DocumentState → List (ℕ × ℕ) → Type 0
AreReplaceable document stretches = AreStretches document.ranges (0, 0) document.text 0 stretches
