-- Rows with their marks, counted.
use Rattle.std.proofs.Common.{length, sym, subst, ◌≡◌, ◌↔◌, ◌∙◌, ◌++◌, refl, List, Result, Ok, Err, ℕ, take, drop}
use Rattle.textarea_wrap.specs.Prelude.{IfOk, IsOk, marks_of, range_count, RowsView}
use Rattle.textarea_wrap.proofs.MarkLemmas.{marks_among, ranges_among}

-- right ranges with their marks, as the rows that have them
abbrev pub AreMarked : (line : List ℕ) → (List (ℕ × ℕ) → Type 0) → RowsView → Type 0
AreMarked line P rows = P rows.ranges × (rows.marks ≡ marks_of line rows.ranges)

marked : (line : List ℕ) (P : List (ℕ × ℕ) → Type 0) (items ranges : List (ℕ × ℕ)) (rows : RowsView) → P ranges → items ≡ ranges ++ marks_of line ranges →
    rows.ranges ≡ take (range_count (length items)) items → rows.marks ≡ drop (range_count (length items)) items → AreMarked line P rows
marked line P items ranges rows right is first rest =
    let same : rows.ranges ≡ ranges = first ∙ ranges_among line items ranges is in
    (subst P (sym same) right, subst (λ t. rows.marks ≡ marks_of line t) (sym same) (rest ∙ marks_among line items ranges is))

-- what holds for the items holds for the rows that have them
pub if_counted : {T E : Type 0} (wrapped : Result T E) (rows : Result RowsView E) (items : T → List (ℕ × ℕ)) (line : List ℕ) (P : List (ℕ × ℕ) → Type 0) →
    IfOk wrapped (λ t. (ranges : List (ℕ × ℕ)) × P ranges × (items t ≡ ranges ++ marks_of line ranges)) →
    IfOk wrapped (λ t. IfOk rows (λ r. r.ranges ≡ take (range_count (length (items t))) (items t))) →
    IfOk wrapped (λ t. IfOk rows (λ r. r.marks ≡ drop (range_count (length (items t))) (items t))) → IsOk rows ↔ IsOk wrapped → IfOk rows (AreMarked line P)
if_counted wrapped (Err e) items line P p first rest ok = tt
if_counted (Ok t) (Ok r) items line P p first rest ok = marked line P (items t) p.0 r p.1 p.2 first rest
if_counted (Err e) (Ok r) items line P p first rest ok = let no = ok.0 refl in absurd cc

-- a fact about each result
pub of_rows : {E : Type 0} (rows : Result RowsView E) (P Q : RowsView → Type 0) → ((r : RowsView) → P r → Q r) → IfOk rows P → IfOk rows Q
of_rows (Ok r) P Q f p = f r p
of_rows (Err e) P Q f p = tt
