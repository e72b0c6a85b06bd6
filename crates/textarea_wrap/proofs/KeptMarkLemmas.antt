-- The marks of rows that an edit after them doesn't change.
use Rattle.std.proofs.Common.{◌≡◌, ℕ, zero, suc, ◌+◌, ◌*◌, ◌/◌, ◌<◌, ◌≤◌, List, [], ◌∷◌, ◌++◌, map, length, take, get_or, refl, sym, subst, ap, ap₂, ◌∙◌, arith, add-one}
use Rattle.std.proofs.lemmas.List.{get_or-take, take-take}
use Rattle.std.proofs.lemmas.List.FromFn.{map-range_with_len_more, take-map-range_with_len}
use Rattle.std.proofs.lemmas.Str.{IsCharBoundary-from_take}
use Rattle.textarea_wrap.proofs.Prelude.{IsUtf8-take, get_or_append_left, length-append, length-take-le}
use Rattle.textarea_util.proofs.Alls.{all_at}
use Rattle.textarea_wrap.specs.Prelude.{IsCharBoundary, IsRowRange, IsUtf8, IsWrapped, WrapMode, chars, mark_at, marks_of, range_with_len}
use Rattle.textarea_wrap.specs.Partings.{AgreeUntil}
use Rattle.textarea_wrap.proofs.MarkLemmas.{length-marks_of, rows_ordered}

module _ (old line : List ℕ) (same : ℕ) (u : IsUtf8 line) (agree : AgreeUntil old line same) where
  -- both lines have the same front
  front_is : (at : ℕ) → at ≤ same → take at old ≡ take at line
  front_is at before = sym (take-take at same old before) ∙ ap (take at) agree.agree ∙ take-take at same line before

  -- where a character of the one line begins, one of the other does
  pub boundary_agrees : (at : ℕ) → at ≤ same → IsCharBoundary old at → IsCharBoundary line at
  boundary_agrees at before start =
      IsCharBoundary-from_take line at u (omega (arith, agree.boundary.0)) (subst IsUtf8 (front_is at before) (IsUtf8-take old at agree.valid start))

  -- rows begin at the same characters
  pub row_boundary : (kind : WrapMode) (t w : ℕ) (ranges : List (ℕ × ℕ)) → IsWrapped kind t w old ranges → (k : ℕ) → k < length ranges → (get_or ranges k (0, 0)).0 < same → IsCharBoundary line (get_or ranges k (0, 0)).0
  row_boundary kind t w ranges was k within before =
      boundary_agrees (get_or ranges k (0, 0)).0 (omega arith) (all_at (IsRowRange old) ranges k (0, 0) was.placed within).start

  module _ (kind : WrapMode) (t w : ℕ) (ranges tail : List (ℕ × ℕ)) (k : ℕ) (was : IsWrapped kind t w old ranges) (within : k < length ranges) (before : (get_or ranges k (0, 0)).0 ≤ same) where
    mark_same : (i : ℕ) → i < k / 8 → mark_at old ranges i ≡ mark_at line (take k ranges ++ tail) i
    mark_same i less =
        let row = 8 * i + 7 in
        let inside : row < k = omega arith in
        let size : length (take k ranges) ≡ k = length-take-le k ranges (omega arith) in
        let range : get_or (take k ranges ++ tail) row (0, 0) ≡ get_or ranges row (0, 0) =
        get_or_append_left (take k ranges) tail (0, 0) row (omega arith) ∙ get_or-take k ranges row (0, 0) inside in
        let start = (get_or ranges row (0, 0)).0 in
        let near : start ≤ same = omega (arith, rows_ordered kind t w old ranges was row k (omega arith) within, before) in
        ap (λ f. (length (chars f), start)) (front_is start near)
        ∙ ap (λ (r : ℕ × ℕ). (length (chars (take r.0 line)), r.0)) (sym range)

    marks_same : (n : ℕ) → n ≤ k / 8 → map (mark_at old ranges) (range_with_len 0 n) ≡ map (mark_at line (take k ranges ++ tail)) (range_with_len 0 n)
    marks_same zero less = refl
    marks_same (suc n) less =
        subst (λ m. map (mark_at old ranges) (range_with_len 0 m) ≡ map (mark_at line (take k ranges ++ tail)) (range_with_len 0 m)) (add-one n)
        (map-range_with_len_more (mark_at old ranges) 0 n n (omega arith)
        ∙ ap₂ (λ ms m. ms ++ m ∷ []) (marks_same n (omega arith)) (mark_same n (omega arith))
        ∙ sym (map-range_with_len_more (mark_at line (take k ranges ++ tail)) 0 n n (omega arith)))

    pub kept_marks_size : length (take (k / 8) (marks_of old ranges)) ≡ k / 8
    kept_marks_size = length-take-le (k / 8) (marks_of old ranges) (omega (arith, length-marks_of old ranges))

    -- the marks of the rows that are kept
    pub kept_marks : take (k / 8) (marks_of old ranges) ≡ take (length (take (k / 8) (marks_of old ranges))) (marks_of line (take k ranges ++ tail))
    unfolding marks_of
    kept_marks =
        let size : length (take k ranges ++ tail) ≡ k + length tail = length-append (take k ranges) tail ∙ ap (λ n. n + length tail) (length-take-le k ranges (omega arith)) in
        take-map-range_with_len (mark_at old ranges) 0 (length ranges / 8) (k / 8) (omega arith)
        ∙ marks_same (k / 8) (omega arith)
        ∙ sym (take-map-range_with_len (mark_at line (take k ranges ++ tail)) 0 (length (take k ranges ++ tail) / 8) (k / 8) (omega (arith, size)))
        ∙ ap (λ n. take n (marks_of line (take k ranges ++ tail))) (sym kept_marks_size)
