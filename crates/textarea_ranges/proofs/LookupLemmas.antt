-- A position that is moved out of ranges, and a removal that is widened over them.
use Rattle.std.proofs.Common.{◌≡◌, ℕ, ◌<◌, ◌⊎◌, inl, inr, Bool, true, List, length, get_or, find, Option, Some, None, All, Contains, MatchOption, refl, sym, ap, subst, ◌∙◌, arith}
use Rattle.std.proofs.lemmas.Bool.{cases_lt}
use Rattle.std.proofs.lemmas.List.{get_or_default}
use Rattle.std.proofs.lemmas.Bool.Decides.{nat_tests}
use Rattle.std.proofs.lemmas.List.Elements.{All-contains}
use Rattle.textarea_ranges.specs.Prelude.{Place, IsBefore, IsPlaceOf, IsUpTo, AtomicRange, AtomicCursorBias, Backward, Forward, AtomicDeleteDirection, IsRangeAtPlace, range_at_place, is_range_at_place, IsInside, is_inside}
use Rattle.textarea_ranges.specs.Prelude.{range_start, range_end, range_around, range_edge, range_edge_or, moved_out, TakesRange, IsBeside, Overlaps, TakesWhole, widened, IsWidened, IsRangeOfLine, AreDisjoint, AreValid}
use Rattle.textarea_data.specs.declared.range.AtomicDeleteDirection.TheVariants.{Backward as DeleteBackward, Forward as DeleteForward}
use Rattle.textarea_ranges.proofs.Finds.{IsFirstFound, IsFirstFound-find, fails-find}

-- ---- the test of a range that strictly contains a position

pub IsInside-is_inside : (place : Place) (range : AtomicRange) → is_inside place range ≡ true → IsInside place range
IsInside-is_inside place range h = (grind (arith, nat_tests), grind (arith, nat_tests), grind (arith, nat_tests))

pub is_inside-IsInside : (place : Place) (range : AtomicRange) → IsInside place range → is_inside place range ≡ true
is_inside-IsInside place range h = grind (arith, nat_tests)

-- ---- two ranges of a valid list

-- they are the same, or share no character
pub apart : (rows : List (List ℕ)) (ranges : List AtomicRange) → AreValid rows ranges → (j k : ℕ) (d : AtomicRange) → j < length ranges → k < length ranges → (j ≡ k) ⊎ AreDisjoint (get_or ranges j d) (get_or ranges k d)
apart rows ranges valid j k d j_within k_within =
    elim (cases_lt j k) [
      | inl before ↦ inr (valid.disjoint j k d before k_within)
      | inr from ↦ elim (cases_lt k j) [
        | inl after ↦ inr (λ same. elim (valid.disjoint k j d after j_within (sym same)) [ inl one ↦ inr one | inr other ↦ inl other ])
        | inr both ↦ inl (omega arith)
      ]
    ]

-- a border of the one is not strictly inside the other
border_apart : (one other : AtomicRange) (bias : AtomicCursorBias) → one.start_col < one.end_col → AreDisjoint one other → IsInside (range_edge one bias) other → ⊥
border_apart one other Backward some apart h = elim (apart (sym h.0)) [ inl before ↦ omega arith | inr after ↦ omega arith ]
border_apart one other Forward some apart h = elim (apart (sym h.0)) [ inl before ↦ omega arith | inr after ↦ omega arith ]

border_own : (range : AtomicRange) (bias : AtomicCursorBias) → IsInside (range_edge range bias) range → ⊥
border_own range Backward h = omega arith
border_own range Forward h = omega arith

-- ---- a position that is moved out

outside_of : (rows : List (List ℕ)) (ranges : List AtomicRange) (place : Place) (bias : AtomicCursorBias) → AreValid rows ranges → (found : Option AtomicRange) →
    range_around ranges place ≡ found → All (λ range. ¬ IsInside (range_edge_or found place bias) range) ranges
outside_of rows ranges place bias valid None e k d within h =
    let passes = is_inside-IsInside place (get_or ranges k d) h in
    let fails = fails-find (is_inside place) ranges e k d within in
    cc
outside_of rows ranges place bias valid (Some range) e k d within h =
    let found = IsFirstFound-find (is_inside place) ranges range e in
    let in_line : IsRangeOfLine rows range = subst (IsRangeOfLine rows) (found.at d) (valid.components found.index d found.within) in
    elim (apart rows ranges valid found.index k d found.within within) [
      | inl same ↦
          let is : get_or ranges k d ≡ range = ap (λ n. get_or ranges n d) (sym same) ∙ found.at d in
          border_own range bias (subst (IsInside (range_edge range bias)) is h)
      | inr disjoint ↦ border_apart range (get_or ranges k d) bias in_line.1 (subst (λ (r : AtomicRange). AreDisjoint r (get_or ranges k d)) (found.at d) disjoint) h
    ]

-- the position is strictly inside no range
pub outside-moved_out : (rows : List (List ℕ)) (ranges : List AtomicRange) (place : Place) (bias : AtomicCursorBias) → AreValid rows ranges → All (λ range. ¬ IsInside (moved_out ranges place bias) range) ranges
outside-moved_out rows ranges place bias valid = outside_of rows ranges place bias valid (range_around ranges place) refl

place_of_border : (rows : List (List ℕ)) (range : AtomicRange) (bias : AtomicCursorBias) → IsRangeOfLine rows range → IsPlaceOf rows (range_edge range bias)
place_of_border rows range Backward in_line = (in_line.0, omega arith)
place_of_border rows range Forward in_line = (in_line.0, in_line.2)

place_of_result : (rows : List (List ℕ)) (ranges : List AtomicRange) (place : Place) (bias : AtomicCursorBias) → AreValid rows ranges → IsPlaceOf rows place →
    (found : Option AtomicRange) → range_around ranges place ≡ found → IsPlaceOf rows (range_edge_or found place bias)
place_of_result rows ranges place bias valid h None e = h
place_of_result rows ranges place bias valid h (Some range) e =
    let found = IsFirstFound-find (is_inside place) ranges range e in
    place_of_border rows range bias (subst (IsRangeOfLine rows) (found.at range) (valid.components found.index range found.within))

-- a position of the lines stays one
pub IsPlaceOf-moved_out : (rows : List (List ℕ)) (ranges : List AtomicRange) (place : Place) (bias : AtomicCursorBias) → AreValid rows ranges → IsPlaceOf rows place → IsPlaceOf rows (moved_out ranges place bias)
IsPlaceOf-moved_out rows ranges place bias valid h = place_of_result rows ranges place bias valid h (range_around ranges place) refl

-- ---- a removal that is widened

-- if no end is strictly inside a range, the range is taken whole or not at all
pub removed_or_beside : (from to : Place) (range : AtomicRange) → ¬ IsInside from range → ¬ IsInside to range → TakesRange from to range ⊎ IsBeside from to range
removed_or_beside from to range from_out to_out = grind (arith, nat_tests)

up_to_before : (one two three : Place) → IsUpTo one two → IsBefore two three → IsBefore one three
up_to_before one two three h k = (omega arith, λ same. omega arith)

before_up_to : (one two three : Place) → IsBefore one two → IsUpTo two three → IsBefore one three
before_up_to one two three h k = (omega arith, λ same. omega arith)

-- a range beside a removal does not overlap it
pub not_beside : (from to : Place) (range : AtomicRange) → Overlaps from to range → IsBeside from to range → ⊥
not_beside from to range h (inl up) = grind (arith, nat_tests)
not_beside from to range h (inr up) = grind (arith, nat_tests)

overlaps_more : (from to first last : Place) (range : AtomicRange) → IsUpTo first from → IsUpTo to last → Overlaps from to range → Overlaps first last range
overlaps_more from to first last range starts ends h = (before_up_to (range_start range) to last h.0 ends, up_to_before first from (range_end range) starts h.1)

-- a removal that takes a range whole or not at all, and overlaps it, takes it whole
within_from : (from to : Place) (range : AtomicRange) → Overlaps from to range → TakesRange from to range ⊎ IsBeside from to range → TakesRange from to range
within_from from to range h (inl within) = within
within_from from to range h (inr beside) = absurd (not_beside from to range h beside)

up_to_same : (place : Place) → IsUpTo place place
up_to_same place = (omega arith, λ same. omega arith)

starts_of : (ranges : List AtomicRange) (from : Place) (found : Option AtomicRange) → range_around ranges from ≡ found → IsUpTo (range_edge_or found from Backward) from
starts_of ranges from None e = up_to_same from
starts_of ranges from (Some range) e =
    let stored = IsInside-is_inside from range (IsFirstFound-find (is_inside from) ranges range e).passes in
    (omega arith, λ same. omega arith)

ends_of : (ranges : List AtomicRange) (to : Place) (found : Option AtomicRange) → range_around ranges to ≡ found → IsUpTo to (range_edge_or found to Forward)
ends_of ranges to None e = up_to_same to
ends_of ranges to (Some range) e =
    let stored = IsInside-is_inside to range (IsFirstFound-find (is_inside to) ranges range e).passes in
    (omega arith, λ same. omega arith)

-- a removal with an end strictly inside a range overlaps it
overlaps_at_start : (from to : Place) (range : AtomicRange) → IsUpTo from to → IsInside from range → Overlaps from to range
overlaps_at_start from to range up h = grind (arith, nat_tests)

overlaps_at_end : (from to : Place) (range : AtomicRange) → IsUpTo from to → IsInside to range → Overlaps from to range
overlaps_at_end from to range up h = grind (arith, nat_tests)

-- what a removal overlaps, a larger one takes whole if it takes each range whole or not at all
removed_over : (ranges : List AtomicRange) (from to first last : Place) (test : AtomicRange → Bool) (range : AtomicRange) → IsUpTo first from → IsUpTo to last →
    TakesWhole ranges first last → IsFirstFound test ranges range → Overlaps from to range → TakesRange first last range
removed_over ranges from to first last test range starts ends whole found overlap = grind (arith, nat_tests)

least_start : (ranges : List AtomicRange) (from to first last : Place) → IsUpTo from to → IsUpTo first from → IsUpTo to last → TakesWhole ranges first last →
    (found : Option AtomicRange) → range_around ranges from ≡ found → IsUpTo first (range_edge_or found from Backward)
least_start ranges from to first last up starts ends whole None e = starts
least_start ranges from to first last up starts ends whole (Some range) e =
    let found = IsFirstFound-find (is_inside from) ranges range e in
    (removed_over ranges from to first last (is_inside from) range starts ends whole found (overlaps_at_start from to range up (IsInside-is_inside from range found.passes))).0

least_end : (ranges : List AtomicRange) (from to first last : Place) → IsUpTo from to → IsUpTo first from → IsUpTo to last → TakesWhole ranges first last →
    (found : Option AtomicRange) → range_around ranges to ≡ found → IsUpTo (range_edge_or found to Forward) last
least_end ranges from to first last up starts ends whole None e = ends
least_end ranges from to first last up starts ends whole (Some range) e =
    let found = IsFirstFound-find (is_inside to) ranges range e in
    (removed_over ranges from to first last (is_inside to) range starts ends whole found (overlaps_at_end from to range up (IsInside-is_inside to range found.passes))).1

-- each range is taken whole or not at all
pub TakesWhole-widened : (rows : List (List ℕ)) (ranges : List AtomicRange) (from to : Place) → AreValid rows ranges → TakesWhole ranges (widened ranges from to).0 (widened ranges from to).1
TakesWhole-widened rows ranges from to valid k d within =
    removed_or_beside (moved_out ranges from Backward) (moved_out ranges to Forward) (get_or ranges k d) (outside-moved_out rows ranges from Backward valid k d within) (outside-moved_out rows ranges to Forward valid k d within)

pub IsWidened-widened : (rows : List (List ℕ)) (ranges : List AtomicRange) (from to : Place) → AreValid rows ranges → IsUpTo from to → IsWidened ranges from to (widened ranges from to)
IsWidened-widened rows ranges from to valid up =
    let whole = TakesWhole-widened rows ranges from to valid in
    let starts = starts_of ranges from (range_around ranges from) refl in
    let ends = ends_of ranges to (range_around ranges to) refl in
    record {
      starts = starts;
      ends = ends;
      overlapping = λ k d within h. within_from _ _ _ (overlaps_more from to _ _ (get_or ranges k d) starts ends h) (whole k d within);
      whole = whole;
      least = λ first last before after all. (least_start ranges from to first last up before after all (range_around ranges from) refl, least_end ranges from to first last up before after all (range_around ranges to) refl);
    }

-- ---- the range that is found

pub IsRangeAtPlace-is_range_at_place : (place : Place) (direction : AtomicDeleteDirection) (range : AtomicRange) → is_range_at_place place direction range ≡ true → IsRangeAtPlace place direction range
IsRangeAtPlace-is_range_at_place place DeleteBackward range h = (grind (arith, nat_tests), grind (arith, nat_tests), grind (arith, nat_tests))
IsRangeAtPlace-is_range_at_place place DeleteForward range h = (grind (arith, nat_tests), grind (arith, nat_tests), grind (arith, nat_tests))

pub is_range_at_place-IsRangeAtPlace : (place : Place) (direction : AtomicDeleteDirection) (range : AtomicRange) → IsRangeAtPlace place direction range → is_range_at_place place direction range ≡ true
is_range_at_place-IsRangeAtPlace place DeleteBackward range h = grind (arith, nat_tests)
is_range_at_place-IsRangeAtPlace place DeleteForward range h = grind (arith, nat_tests)

-- two ranges of a valid list that share a character are the same
same_range : (rows : List (List ℕ)) (ranges : List AtomicRange) (one other : AtomicRange) → AreValid rows ranges → Contains ranges one → Contains ranges other → ¬ AreDisjoint one other → one ≡ other
same_range rows ranges one other valid in_one in_other share =
    elim (apart rows ranges valid in_one.0 in_other.0 one in_one.1 in_other.1) [
      | inl same ↦ sym in_one.2 ∙ ap (λ k. get_or ranges k one) same ∙ at_other
      | inr disjoint ↦ absurd (share (subst (AreDisjoint one) at_other (subst (λ (r : AtomicRange). AreDisjoint r (get_or ranges in_other.0 one)) in_one.2 disjoint)))
    ]
  where
    at_other : get_or ranges in_other.0 one ≡ other
    at_other = get_or_default ranges in_other.0 one other in_other.1 ∙ in_other.2

inside_shares : (place : Place) (one other : AtomicRange) → IsInside place one → IsInside place other → ¬ AreDisjoint one other
inside_shares place one other h k apart = grind (arith, nat_tests)

ranges_share : (place : Place) (direction : AtomicDeleteDirection) (one other : AtomicRange) → IsRangeAtPlace place direction one → IsRangeAtPlace place direction other → ¬ AreDisjoint one other
ranges_share place DeleteBackward one other h k apart = grind (arith, nat_tests)
ranges_share place DeleteForward one other h k apart = grind (arith, nat_tests)

-- a search whose test decides a fact of a range
module _ (test : AtomicRange → Bool) (Holds : AtomicRange → Type 0) (holds : (range : AtomicRange) → test range ≡ true → Holds range) (passes : (range : AtomicRange) → Holds range → test range ≡ true) (ranges : List AtomicRange) where
  find_cases : (found : Option AtomicRange) → find test ranges ≡ found → MatchOption found (All (λ range. ¬ Holds range) ranges) (λ range. Contains ranges range × Holds range)
  find_cases None e = λ k d within h.
      let pass = passes (get_or ranges k d) h in
      let fails = fails-find test ranges e k d within in
      cc
  find_cases (Some range) e =
      let found = IsFirstFound-find test ranges range e in
      ((found.index, found.within, found.at range), holds range found.passes)

  only_one : (rows : List (List ℕ)) (range : AtomicRange) → AreValid rows ranges → ((one other : AtomicRange) → Holds one → Holds other → ¬ AreDisjoint one other) →
      Contains ranges range → Holds range → (found : Option AtomicRange) → find test ranges ≡ found → found ≡ Some range
  only_one rows range valid share within h None e = absurd (All-contains (λ r. ¬ Holds r) ranges range (find_cases None e) within h)
  only_one rows range valid share within h (Some other) e =
      let found = find_cases (Some other) e in
      ap Some (same_range rows ranges other range valid found.0 within (share other range found.1 h))

-- the range that strictly contains a position, or none of the list; a valid list has no other
pub MatchOption-inside : (ranges : List AtomicRange) (place : Place) → MatchOption (range_around ranges place) (All (λ range. ¬ IsInside place range) ranges) (λ range. Contains ranges range × IsInside place range)
MatchOption-inside ranges place = find_cases (is_inside place) (IsInside place) (IsInside-is_inside place) (is_inside-IsInside place) ranges (range_around ranges place) refl

pub inside-only : (rows : List (List ℕ)) (ranges : List AtomicRange) (place : Place) (range : AtomicRange) → AreValid rows ranges → Contains ranges range → IsInside place range → range_around ranges place ≡ Some range
inside-only rows ranges place range valid within h =
    only_one (is_inside place) (IsInside place) (IsInside-is_inside place) (is_inside-IsInside place) ranges rows range valid (inside_shares place) within h (range_around ranges place) refl

-- the same for the range at a position
pub MatchOption-at_place : (ranges : List AtomicRange) (place : Place) (direction : AtomicDeleteDirection) →
    MatchOption (range_at_place ranges place direction) (All (λ range. ¬ IsRangeAtPlace place direction range) ranges) (λ range. Contains ranges range × IsRangeAtPlace place direction range)
MatchOption-at_place ranges place direction =
    find_cases (is_range_at_place place direction) (IsRangeAtPlace place direction) (IsRangeAtPlace-is_range_at_place place direction)
    (is_range_at_place-IsRangeAtPlace place direction) ranges (range_at_place ranges place direction) refl

pub at_place-only : (rows : List (List ℕ)) (ranges : List AtomicRange) (place : Place) (direction : AtomicDeleteDirection) (range : AtomicRange) → AreValid rows ranges →
    Contains ranges range → IsRangeAtPlace place direction range → range_at_place ranges place direction ≡ Some range
at_place-only rows ranges place direction range valid within h =
    only_one (is_range_at_place place direction) (IsRangeAtPlace place direction) (IsRangeAtPlace-is_range_at_place place direction)
    (is_range_at_place-IsRangeAtPlace place direction) ranges rows range valid (ranges_share place direction) within h (range_at_place ranges place direction) refl
