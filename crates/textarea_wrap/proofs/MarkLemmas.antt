-- Marks: where they are among the items of `Rows`, and one mark more.
use Rattle.std.proofs.Common.{◌≡◌, ℕ, zero, suc, ◌+◌, ◌-◌, ◌*◌, ◌/◌, ◌<◌, ◌≤◌, List, [], ◌∷◌, ◌++◌, length, map, take, drop, get_or, refl, sym, subst, ap, ap₂, ◌∙◌, ⊎_elim, arith}
use Rattle.std.proofs.lemmas.List.FromFn.{get_or-map-range_with_len, take-map-range_with_len}
use Rattle.textarea_util.proofs.Alls.{all_at}
use Rattle.textarea_wrap.proofs.Prelude.{IsCharBoundary-start, cases_lt, chars-nil, take-add, append_assoc, drop_at, length-append, take_at, length-map-range_with_len, map-range_with_len_more, IsUtf8-take, chars-append}
use Rattle.textarea_wrap.specs.Prelude.{AllByRecursion, AreMarkedUntil, IsRowRange, range_with_len, IsCharBoundary, IsUtf8, chars, mark_at, marks_of, range_count, ranges_from, IsWrapped, WrapMode}

-- ---- ranges and marks together

pub length-marks_of : (line : List ℕ) (ranges : List (ℕ × ℕ)) → length (marks_of line ranges) ≡ length ranges / 8
unfolding marks_of
length-marks_of line ranges = length-map-range_with_len (mark_at line ranges) 0 (length ranges / 8)

count_is : (n m : ℕ) → m ≡ n + n / 8 → range_count m ≡ n
count_is n m e = omega arith

range_count_is : (line : List ℕ) (items ranges : List (ℕ × ℕ)) → items ≡ ranges ++ marks_of line ranges → range_count (length items) ≡ length ranges
range_count_is line items ranges e =
    count_is (length ranges) (length items) (omega (arith, ap length e, length-append ranges (marks_of line ranges), length-marks_of line ranges))

pub ranges_among : (line : List ℕ) (items ranges : List (ℕ × ℕ)) → items ≡ ranges ++ marks_of line ranges → take (range_count (length items)) items ≡ ranges
ranges_among line items ranges e =
    ap (take (range_count (length items))) e ∙ take_at ranges (marks_of line ranges) (range_count (length items)) (sym (range_count_is line items ranges e))

pub marks_among : (line : List ℕ) (items ranges : List (ℕ × ℕ)) → items ≡ ranges ++ marks_of line ranges → drop (range_count (length items)) items ≡ marks_of line ranges
marks_among line items ranges e =
    ap (drop (range_count (length items))) e ∙ drop_at ranges (marks_of line ranges) (range_count (length items)) (sym (range_count_is line items ranges e))

-- ---- rows begin in order

start_from : (at : ℕ) (texts : List (List ℕ)) (j : ℕ) → j < length (ranges_from at texts) → at ≤ (get_or (ranges_from at texts) j (0, 0)).0
start_from at [] j within = absurd (omega arith)
start_from at (text ∷ texts) zero within = omega arith
start_from at (text ∷ texts) (suc j) within = omega (arith, start_from (at + length text) texts j (omega arith))

starts_ordered : (at : ℕ) (texts : List (List ℕ)) (i j : ℕ) → i ≤ j → j < length (ranges_from at texts) → (get_or (ranges_from at texts) i (0, 0)).0 ≤ (get_or (ranges_from at texts) j (0, 0)).0
starts_ordered at [] i j up within = absurd (omega arith)
starts_ordered at (text ∷ texts) zero j up within = start_from at (text ∷ texts) j within
starts_ordered at (text ∷ texts) (suc i) zero up within = absurd (omega arith)
starts_ordered at (text ∷ texts) (suc i) (suc j) up within = starts_ordered (at + length text) texts i j (omega arith) (omega arith)

pub rows_ordered : (kind : WrapMode) (tab_len width : ℕ) (line : List ℕ) (ranges : List (ℕ × ℕ)) → IsWrapped kind tab_len width line ranges → (i j : ℕ) → i ≤ j → j < length ranges → (get_or ranges i (0, 0)).0 ≤ (get_or ranges j (0, 0)).0
rows_ordered kind tab_len width line ranges h i j up within =
    rw h.ranges_are (starts_ordered 0 h.texts i j up (omega (arith, within, ap length h.ranges_are)))

-- ---- the characters before a later offset

pub characters_more : (line slice : List ℕ) (from start : ℕ) → IsUtf8 line → from ≤ start → IsCharBoundary line from → slice ≡ take (start - from) (drop from line) →
    length (chars (take from line)) + length (chars slice) ≡ length (chars (take start line))
characters_more line slice from start u up boundary is =
    let sum : from + (start - from) ≡ start = omega arith in
    let joined : take start line ≡ take from line ++ slice =
    ap (λ n. take n line) (sym sum) ∙ take-add from (start - from) line ∙ ap (λ t. take from line ++ t) (sym is) in
    omega (arith, ap (λ t. length (chars t)) joined, ap length (chars-append (take from line) slice (IsUtf8-take line from u boundary)), length-append (chars (take from line)) (chars slice))

-- ---- one mark more

pub items_more : (line : List ℕ) (old items now : List (ℕ × ℕ)) (index column start : ℕ) → items ≡ old ++ map (mark_at line old) (range_with_len 0 index) →
    now ≡ items ++ (column, start) ∷ [] → start ≡ (get_or old (8 * index + 7) (0, 0)).0 → column ≡ length (chars (take start line)) →
    now ≡ old ++ map (mark_at line old) (range_with_len 0 (index + 1))
items_more line old items now index column start so_far is start_is column_is =
    let marks = map (mark_at line old) (range_with_len 0 index) in
    let mark : (column, start) ≡ mark_at line old index =
    ap₂ (λ (a b : ℕ). (a, b)) (column_is ∙ ap (λ n. length (chars (take n line))) start_is) start_is in
    is ∙ ap (λ t. t ++ (column, start) ∷ []) so_far ∙ append_assoc old marks ((column, start) ∷ [])
    ∙ ap (λ t. old ++ t) (ap (λ m. marks ++ m ∷ []) mark ∙ sym (map-range_with_len_more (mark_at line old) 0 index index (omega arith)))

pub marks_all : (line : List ℕ) (old items : List (ℕ × ℕ)) (index : ℕ) → index ≡ length old / 8 → items ≡ old ++ map (mark_at line old) (range_with_len 0 index) → items ≡ old ++ marks_of line old
unfolding marks_of
marks_all line old items index all so_far = so_far ∙ ap (λ n. old ++ map (mark_at line old) (range_with_len 0 n)) all

-- ---- known marks

-- the ranges among items that more follow
pub front_items : (items ranges more : List (ℕ × ℕ)) → items ≡ ranges ++ more → take (length items - length more) items ≡ ranges
front_items items ranges more is =
    let size : length items - length more ≡ length ranges = omega (arith, ap length is, length-append ranges more) in
    ap (λ n. take n items) size ∙ ap (take (length ranges)) is ∙ take_at ranges more (length ranges) refl

module _ (line : List ℕ) (ranges known : List (ℕ × ℕ)) (last : ℕ × ℕ) (u : IsUtf8 line) (placed : AllByRecursion (IsRowRange line) ranges)
    (ordered : (i j : ℕ) → i ≤ j → j < length ranges → (get_or ranges i (0, 0)).0 ≤ (get_or ranges j (0, 0)).0) (few : length known ≤ length ranges / 8)
    (known_is : known ≡ take (length known) (marks_of line ranges))
    (none : length known ≡ 0 → last ≡ (0, 0)) (some : 0 < length known → last ≡ get_or known (length known - 1) (0, 0)) where
  known_are : known ≡ map (mark_at line ranges) (range_with_len 0 (length known))
  unfolding marks_of
  known_are = known_is ∙ take-map-range_with_len (mark_at line ranges) 0 (length ranges / 8) (length known) few

  -- where the last mark is
  record IsLast : Type 0 where
    column : last.0 ≡ length (chars (take last.1 line))
    boundary : IsCharBoundary line last.1
    before : (j : ℕ) → 8 * length known ≤ j + 1 → j < length ranges → last.1 ≤ (get_or ranges j (0, 0)).0

  at_start : length known ≡ 0 → IsLast
  at_start nothing =
      let is = none nothing in
      record {
        column = ap (λ (p : ℕ × ℕ). p.0) is ∙ sym (ap length chars-nil) ∙ ap (λ (p : ℕ × ℕ). length (chars (take p.1 line))) (sym is);
        boundary = subst (λ (p : ℕ × ℕ). IsCharBoundary line p.1) (sym is) (IsCharBoundary-start line u);
        before = λ j up within. omega (arith, ap (λ (p : ℕ × ℕ). p.1) is);
      }

  at_mark : 0 < length known → IsLast
  at_mark there =
      let index = length known - 1 in
      let row = 8 * index + 7 in
      let within : row < length ranges = omega (arith, few) in
      let is : last ≡ mark_at line ranges index =
      some there ∙ ap (λ (t : List (ℕ × ℕ)). get_or t index (0, 0)) known_are
      ∙ get_or-map-range_with_len (mark_at line ranges) 0 (length known) index index (0, 0) (omega arith) (omega arith) in
      let start : last.1 ≡ (get_or ranges row (0, 0)).0 = ap (λ (p : ℕ × ℕ). p.1) is in
      record {
        column = ap (λ (p : ℕ × ℕ). p.0) is ∙ ap (λ n. length (chars (take n line))) (sym start);
        boundary = subst (IsCharBoundary line) (sym start) (all_at (IsRowRange line) ranges row (0, 0) placed within).start;
        before = λ j up inside. omega (arith, ordered row j (omega (arith, up)) inside, start);
      }

  pub marked_known : (items : List (ℕ × ℕ)) → items ≡ ranges ++ known → AreMarkedUntil line (take (length items - length known) items) items (length known) last
  marked_known items is =
      let at : IsLast = ⊎_elim (λ there. at_mark there) (λ nothing. at_start (omega arith)) (cases_lt 0 (length known)) in
      subst (λ r. AreMarkedUntil line r items (length known) last) (sym (front_items items ranges known is)) record {
        placed = placed;
        ordered = ordered;
        few = few;
        items_are = is ∙ ap (λ t. ranges ++ t) known_are;
        column = at.column;
        boundary = at.boundary;
        before = at.before;
      }

pub no_marks : (line : List ℕ) (ranges : List (ℕ × ℕ)) → [] ≡ take 0 (marks_of line ranges)
no_marks line ranges = refl
