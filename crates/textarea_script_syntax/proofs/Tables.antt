-- Tables of commands.
use Rattle.std.proofs.Common.{refl}
use Rattle.std.specs.Prelude.{◌≡◌, ℕ, Bool, true, false, List, [], ◌∷◌, ◌++◌, Option, None, Some, option_and_then, if◌then◌else◌}
use Rattle.std.specs.Str.{bytes_eq}
use Rattle.std.specs.List.{AllByRecursion}
use Rattle.textarea_script_syntax.specs.Arguments.{named}
use Rattle.textarea_script_syntax.specs.Meaning.{Meaning, meaning_by}

-- the row has no meaning without arguments
abbrev pub IsNeverBare : List ℕ × (Option (List ℕ) → Option Meaning) → Type 0
IsNeverBare row = row.1 None ≡ None

-- without arguments neither of two rows has a meaning
neither : (same : Bool) (means : Option (List ℕ) → Option Meaning) (others : Option (Option (List ℕ) → Option Meaning)) → means None ≡ None →
    option_and_then (λ (m : Option (List ℕ) → Option Meaning). m None) others ≡ None → option_and_then (λ (m : Option (List ℕ) → Option Meaning). m None) (if same then Some means else others) ≡ None
neither true means others first second = first
neither false means others first second = second

-- If no row of a table has a meaning without arguments, and a name has none by another table, it has none by both.
pub none_bare : (front back : List (List ℕ × (Option (List ℕ) → Option Meaning))) (name : List ℕ) → AllByRecursion IsNeverBare front → meaning_by back name None ≡ None →
    meaning_by (front ++ back) name None ≡ None
none_bare [] back name bare none = none
none_bare (row ∷ front) back name bare none =
    neither (bytes_eq name row.0) row.1 (named (front ++ back) name) bare.0 (none_bare front back name bare.1 none)

-- the row has no meaning with these arguments
abbrev pub MeansNothing : Option (List ℕ) → List ℕ × (Option (List ℕ) → Option Meaning) → Type 0
MeansNothing arguments row = row.1 arguments ≡ None

-- If a name has no meaning with these arguments by one table, and no row of another one has any, it has none by both.
pub none_after : (arguments : Option (List ℕ)) (front back : List (List ℕ × (Option (List ℕ) → Option Meaning))) (name : List ℕ) → meaning_by front name arguments ≡ None →
    AllByRecursion (MeansNothing arguments) back → meaning_by (front ++ back) name arguments ≡ None
none_after arguments [] [] name none nothing = refl
none_after arguments [] (row ∷ back) name none nothing = by (bytes_eq name row.0) (none_after arguments [] back name refl nothing.1)
  where
    by : (same : Bool) → meaning_by back name arguments ≡ None
        → option_and_then (λ (m : Option (List ℕ) → Option Meaning). m arguments) (if same then Some row.1 else named back name) ≡ None
    by true others = nothing.0
    by false others = others
none_after arguments (row ∷ front) back name none nothing = by (bytes_eq name row.0) none (λ unfound. none_after arguments front back name unfound nothing)
  where
    by : (same : Bool) → option_and_then (λ (m : Option (List ℕ) → Option Meaning). m arguments) (if same then Some row.1 else named front name) ≡ None
        → (meaning_by front name arguments ≡ None → meaning_by (front ++ back) name arguments ≡ None)
        → option_and_then (λ (m : Option (List ℕ) → Option Meaning). m arguments) (if same then Some row.1 else named (front ++ back) name) ≡ None
    by true first others = first
    by false first others = others first
