-- Greedy wrapping has the fewest rows, since a stretch that begins later is never wider.
use Rattle.textarea_wrap.proofs.Prelude.{common_steps, length-map}
use Rattle.std.proofs.Common.{◌≡◌, ℕ, ◌≤◌, ◌⊎◌, inl, inr, List, [], ◌∷◌, ◌++◌, length, refl, sym, ap, ◌∙◌, ⊎_elim, append_assoc, append-nil, length-append, arith}
use Rattle.textarea_wrap.specs.Prelude.{concat, stretch_width, Stretch, stretches_of, IsGlyphRow, AreGlyphRows, IsGlyphWrapping, AreFittingRows, HasFewestGlyphRows}
use Rattle.textarea_wrap.proofs.ColumnLemmas.{stretch_width-front, stretch_width-back}

-- ---- two splits of one list

-- of two prefixes of a list one is a prefix of the other
pub fronts : (a b c d : Stretch) → a ++ b ≡ c ++ d → ((e : Stretch) × (c ≡ a ++ e) × (b ≡ e ++ d)) ⊎ ((e : Stretch) × (a ≡ c ++ e) × (d ≡ e ++ b))
fronts [] b c d h = inl (c, refl, h)
fronts (x ∷ a) b [] d h = inr (x ∷ a, refl, sym h)
fronts (x ∷ a) b (y ∷ c) d h =
    let heads : x ≡ y = cc in
    let tails : a ++ b ≡ c ++ d = cc in
    ⊎_elim (λ p. inl (p.0, ap (λ t. y ∷ t) p.1 ∙ ap (λ z. z ∷ (a ++ p.0)) (sym heads), p.2))
    (λ p. inr (p.0, ap (λ t. x ∷ t) p.1 ∙ ap (λ z. z ∷ (c ++ p.0)) heads, p.2)) (fronts a b c d tails)

-- the rest of a fitting row does not contain a whole greedy row `stretch` and more
pub not_shorter : (t w : ℕ) (stretch later front rest : Stretch) (next : List ℕ) (row : Stretch) → IsGlyphRow t w stretch later → later ≡ next ∷ rest → (back : Stretch)
    → row ≡ front ++ (stretch ++ next ∷ back) → (stretch_width t row ≤ w) ⊎ (length row ≡ 1) → ⊥
not_shorter t w stretch later front rest next row greedy later_is back row_is fits =
    grind (arith, common_steps, append_assoc stretch (next ∷ []) back, stretch_width-front t (stretch ++ next ∷ []) back, stretch_width-back t front (stretch ++ next ∷ back), length-append)

-- so a fitting row that continues after a greedy one ends with it
ended : (t w : ℕ) (stretch left rest row front back over : Stretch) → IsGlyphRow t w stretch (left ++ []) → row ≡ front ++ back → back ≡ stretch ++ over → left ≡ over ++ rest
    → (stretch_width t row ≤ w) ⊎ (length row ≡ 1) → left ≡ rest
ended t w stretch left rest row front back [] greedy row_is back_is left_is fits = left_is
ended t w stretch left rest row front back (next ∷ over) greedy row_is back_is left_is fits =
    absurd (not_shorter t w stretch (left ++ []) front (over ++ rest) next row greedy (append-nil left ∙ left_is) over (row_is ∙ ap (λ t. front ++ t) back_is) fits)

-- the greedy rows of what remains after a prefix are no more than any fitting rows of the whole
pub greedy_ahead : (t w : ℕ) (others greedy : List Stretch) (front : Stretch) → AreGlyphRows t w greedy [] → front ++ stretches_of greedy ≡ stretches_of others
    → AreFittingRows t w others → length greedy ≤ length others
greedy_ahead t w others [] front wrapped same fit = omega arith
greedy_ahead t w [] (stretch ∷ greedy) front wrapped same fit =
    grind (arith, common_steps, length-append front (stretch ++ stretches_of greedy), length-append stretch (stretches_of greedy))
greedy_ahead t w (row ∷ others) (stretch ∷ greedy) front wrapped same fit =
    ⊎_elim
    (λ p.
    ⊎_elim
    (λ q. let together = ended t w stretch (stretches_of greedy) (stretches_of others) row front p.0 q.0 wrapped.0 p.1 q.1 q.2 fit.0 in
    let after = greedy_ahead t w others greedy [] wrapped.1 together fit.1 in omega arith)
    (λ q. let after = greedy_ahead t w others greedy q.0 wrapped.1 (sym q.2) fit.1 in omega arith)
    (fronts stretch (stretches_of greedy) p.0 (stretches_of others) p.2))
    (λ p. let after = greedy_ahead t w others (stretch ∷ greedy) p.0 wrapped (sym p.2) fit.1 in omega arith)
    (fronts front (stretch ++ stretches_of greedy) row (stretches_of others) same)

-- wrapping at grapheme cluster ends has the fewest rows
pub HasFewestGlyphRows-wrapping : (t w : ℕ) (text : List ℕ) (rows : List (List ℕ)) → IsGlyphWrapping t w text rows → HasFewestGlyphRows t w text (length rows)
HasFewestGlyphRows-wrapping t w text rows wrapping = λ others whole fit.
    let count = ap length wrapping.rows_are ∙ length-map wrapping.stretches concat in
    let least = greedy_ahead t w others wrapping.stretches [] wrapping.wrapped (wrapping.whole ∙ sym whole) fit in
    omega arith
