-- Offsets at which a row can be split, and their order.
use Rattle.std.proofs.lemmas.Grind.{common_steps}
use Rattle.std.proofs.Common.{◌≡◌, ℕ, zero, suc, ◌≤◌, ◌<◌, min, true, false, List, [], ◌∷◌, ◌++◌, length, get_or, refl, sym, ap, subst, ◌∙◌, ⊎_elim, arith, is_lt, IsCharBoundary, cond}
use Rattle.std.specs.Fmt.{is_char_start}
use Rattle.std.specs.Prelude.{IsPermutation}
use Rattle.std.specs.Fmt.Cut.{floor_char_boundary}
use Rattle.std.specs.Cmp.{IsStrictWeakOrder, nat_cmp_total, on_total, then_total}
use Rattle.std.specs.List.Sorted.{IsSortedByKey}
use Rattle.std.proofs.lemmas.Bool.Decides.{nat_tests}
use Rattle.std.proofs.lemmas.List.MinMax.{ranks_by}
use Rattle.std.proofs.lemmas.List.Sorted.{All-permutation, sorted_far}
use Rattle.std.proofs.lemmas.Bool.{cases_lt}
use Rattle.std.proofs.lemmas.List.{get_or_default, get_or_past, append_assoc, append-nil}
use Rattle.std.proofs.lemmas.Str.{IsCharBoundary-end}
use Rattle.textarea_highlight.specs.Borders.{ArePlaced, rounded_down, highlight_borders, match_borders, search_rank, border_key, border_cmp}
use Rattle.textarea_screen.specs.declared.screen.style.Style.{Style}
use Rattle.textarea_highlight.specs.Split.{IsAscending}
use Rattle.textarea_highlight.specs.declared.highlight.borders.Border.{Border}

-- ---- rounding down

abbrev pub IsLastBoundary : List ℕ → ℕ → ℕ → Type 0
IsLastBoundary row offset at = (at ≤ offset) × IsCharBoundary row at × ((k : ℕ) → at < k → k ≤ offset → ¬ (IsCharBoundary row k))

starts : (b : ℕ) → (128 ≤ b → 192 ≤ b) → is_char_start b ≡ true
starts b h = grind (arith, nat_tests)

continues : (b : ℕ) → ¬ (128 ≤ b → 192 ≤ b) → is_char_start b ≡ false
continues b h = grind (arith, nat_tests)

-- the last boundary is the one at which the search downwards stops
floor_char_boundary_is : (row : List ℕ) (n at : ℕ) → n < length row → IsLastBoundary row n at → floor_char_boundary row n ≡ at
unfolding floor_char_boundary
floor_char_boundary_is row zero at within last = omega (arith, last.0)
floor_char_boundary_is row (suc n) at within last = ⊎_elim
    (λ below. ap (λ t. cond t (suc n) (floor_char_boundary row n)) (continues _ (λ h. last.2 (suc n) below (omega arith) (omega arith, λ _. h)))
    ∙ floor_char_boundary_is row n at (omega arith) (omega (arith, last.0, below), last.1, λ j p q. last.2 j p (omega arith)))
    (λ above. let same : at ≡ suc n = omega (arith, last.0, above) in
    ap (λ t. cond t (suc n) (floor_char_boundary row n)) (starts _ ((subst (IsCharBoundary row) same last.1).1 within)) ∙ sym same)
    (cases_lt at (suc n))

at_end : (row : List ℕ) (n : ℕ) → n ≡ length row → floor_char_boundary row n ≡ n
unfolding floor_char_boundary
at_end row zero e = refl
at_end row (suc n) e = let past : get_or row (suc n) 0 ≡ 0 = get_or_past row (suc n) 0 (omega arith) in rw past refl

at_last : (row : List ℕ) (offset at : ℕ) → length row ≤ offset → IsLastBoundary row offset at → at ≡ length row
at_last row offset at past h = ⊎_elim
    (λ below. absurd (h.2 (length row) below past (IsCharBoundary-end row)))
    (λ above. omega (arith, above, h.1.0))
    (cases_lt at (length row))

pub rounded : (row : List ℕ) (offset at : ℕ) → IsLastBoundary row offset at → at ≡ rounded_down row offset
rounded row offset at h = ⊎_elim
    (λ inside. let least : min offset (length row) ≡ offset = grind arith in
    rw least (sym (floor_char_boundary_is row offset at inside h)))
    (λ past. let least : min offset (length row) ≡ length row = grind arith in
    let last : at ≡ length row = at_last row offset at past h in
    rw least (last ∙ sym (at_end row (length row) refl)))
    (cases_lt offset (length row))

-- ---- sorted borders

-- they are at boundaries of characters, as before
pub sorted_placed : (row : List ℕ) (before after : List Border) → IsPermutation before after → ArePlaced row before → ArePlaced row after
sorted_placed row before after same placed = All-permutation (λ (border : Border). IsCharBoundary row border.offset) before after same placed

-- their offsets ascend

not_before : (a b : Border) → is_lt (border_cmp (border_key b) (border_key a)) ≡ false → a.offset ≤ b.offset
not_before a b h = grind (arith, nat_tests)

pub order_of_borders : IsStrictWeakOrder (λ (a b : Border). is_lt (border_cmp (border_key a) (border_key b)))
order_of_borders = ranks_by (then_total (on_total (λ (p : ℕ × ℕ). p.0) nat_cmp_total) (on_total (λ (p : ℕ × ℕ). p.1) nat_cmp_total)) border_key

pub ascending : (borders : List Border) → IsSortedByKey border_key border_cmp borders → IsAscending borders
ascending borders h i k d e le lt =
    rw (get_or_default borders k e d lt) (not_before (get_or borders i d) (get_or borders k d) (sorted_far _ order_of_borders borders h i k d le lt))

-- ---- one match more

pub match_borders-push : (row : List ℕ) (pairs : List (ℕ × ℕ)) (found : ℕ × ℕ) (style : Style) →
    match_borders row (pairs ++ found ∷ []) style ≡ match_borders row pairs style ++ highlight_borders row found.0 found.1 style search_rank
match_borders-push row [] found style = append-nil (highlight_borders row found.0 found.1 style search_rank)
match_borders-push row (first ∷ pairs) found style = grind (arith, common_steps, match_borders-push row pairs found style, append_assoc)
