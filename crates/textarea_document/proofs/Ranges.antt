-- Ranges of a text, and the condition that an edit satisfies for them.
use Rattle.std.proofs.Common.{◌≡◌, ℕ, ◌+◌, ◌<◌, ◌≤◌, ◌==◌, inl, inr, Bool, true, false, cond, List, [], ◌∷◌, length, drop, take, get_or, Option, Some, None, All, Contains, MatchOption, refl, sym, ap, subst, ◌∙◌, arith}
use Rattle.std.proofs.lemmas.Bool.{cases_lt, ne_eqb}
use Rattle.std.proofs.lemmas.List.{drop_more}
use Rattle.std.proofs.lemmas.List.Elements.{All-contains}
use Rattle.textarea_document.specs.Prelude.{size_limit, IfSome, Symbol, Character, Break, lines, Place, IsPlace, IsUpTo, OccursAt, end, index_of, is_same_place, Fits, AtomicRange}
use Rattle.textarea_document.specs.Prelude.{AtomicDeleteDirection, SplitsNoRange, anchor_out, unless_empty, IsMovable, IsRangeAtPlace, IsInside, TakesWhole, range_at_place, moved_out, range_start}
use Rattle.textarea_document.specs.Prelude.{range_end, AreApart, AreInOrder, AreValid, IsRangeOfLine}
use Rattle.textarea_text.proofs.Befores.{character_occurs}
use Rattle.textarea_text.proofs.TextPlaces.{index_within, joined-lines}
use Rattle.textarea_text.proofs.BetweenLemmas.{up_to_from_index as up_to_in_lines}
use Rattle.textarea_data.specs.declared.range.AtomicCursorBias.TheVariants.{Backward}
use Rattle.textarea_data.specs.declared.range.AtomicDeleteDirection.TheVariants.{Backward as DeleteBackward, Forward as DeleteForward}
use Rattle.textarea_ranges.proofs.LookupLemmas.{IsPlaceOf-moved_out, MatchOption-at_place, removed_or_beside}
use Rattle.textarea_ranges.proofs.Searching.{AreApart-valid}

-- an empty list of ranges is valid for all lines
pub valid_none : (rows : List (List ℕ)) → AreValid rows []
valid_none rows = record { components = λ k d within. absurd (omega arith); disjoint = λ j k d before within. absurd (omega arith) }

-- ranges that are stored can be searched
pub apart_slice : (rows : List (List ℕ)) (stored slice : List AtomicRange) → AreValid rows stored → AreInOrder stored → slice ≡ stored → AreApart slice
apart_slice rows stored slice valid ordered same = subst AreApart (sym same) (AreApart-valid rows stored valid ordered)

-- ---- the order of positions and of indices

-- a position whose index is not greater is before the other, or is the same
pub up_to_from_index : (text : List Symbol) (from to : Place) → IsPlace text from → IsPlace text to → index_of text from ≤ index_of text to → IsUpTo from to
up_to_from_index text from to h h' ordered =
    up_to_in_lines (lines text) from to h h' (subst (λ t. index_of t from ≤ index_of t to) (sym (joined-lines text)) ordered)

-- and the other way round
pub index_from_up_to : (text : List Symbol) (from to : Place) → IsPlace text from → IsPlace text to → IsUpTo from to → index_of text from ≤ index_of text to
index_from_up_to text from to h h' up =
    elim (cases_lt (index_of text to) (index_of text from)) [
      | inl less ↦
          let back = up_to_from_index text to from h' h (omega arith) in
          let row : from.0 ≡ to.0 = omega arith in
          let column : from.1 ≡ to.1 = omega (arith, up.1 row, back.1 (sym row)) in
          let same : index_of text from ≡ index_of text to = ap (λ n. index_of text (n, from.1)) row ∙ ap (λ n. index_of text (to.0, n)) column in
          absurd (omega arith)
      | inr up_to ↦ up_to
    ]

-- a removal that is widened still has a symbol
pub widened_ordered : (text : List Symbol) (from to : Place) (wide : Place × Place) → IsPlace text from → IsPlace text to → IsPlace text wide.0 → IsPlace text wide.1 → IsUpTo wide.0 from →
    IsUpTo to wide.1 → index_of text from < index_of text to → index_of text wide.0 < index_of text wide.1
widened_ordered text from to wide h h' w w' starts ends ordered =
    omega (arith, index_from_up_to text wide.0 from w h starts, index_from_up_to text to wide.1 h' w' ends)

-- ---- the range at the cursor

-- its ends are positions of the text, the first one first
pub record IsStoredRange (text : List Symbol) (range : AtomicRange) : Type 0 where
  pub start_is : IsPlace text (range_start range)
  pub end_is : IsPlace text (range_end range)
  pub ordered : index_of text (range_start range) < index_of text (range_end range)

range_some : (text : List Symbol) (ranges : List AtomicRange) (place : Place) (direction : AtomicDeleteDirection) (found : Option AtomicRange) → AreValid (lines text) ranges →
    MatchOption found (All (λ range. ¬ IsRangeAtPlace place direction range) ranges) (λ range. Contains ranges range × IsRangeAtPlace place direction range) → IfSome found (IsStoredRange text)
range_some text ranges place direction None valid h = tt
range_some text ranges place direction (Some range) valid h =
    let segment : IsRangeOfLine (lines text) range = All-contains (IsRangeOfLine (lines text)) ranges range valid.components h.0 in
    record { start_is = (segment.0, omega arith); end_is = (segment.0, segment.2); ordered = omega arith }

pub range_is_stored : (text : List Symbol) (ranges : List AtomicRange) (place : Place) (direction : AtomicDeleteDirection) → AreValid (lines text) ranges →
    IfSome (range_at_place ranges place direction) (IsStoredRange text)
range_is_stored text ranges place direction valid = range_some text ranges place direction (range_at_place ranges place direction) valid (MatchOption-at_place ranges place direction)

-- with a range at the position, backward, the position isn't the text's start
pub range_starts_before : (text : List Symbol) (ranges : List AtomicRange) (place : Place) (found : Option AtomicRange) → range_at_place ranges place DeleteBackward ≡ found →
    IfSome found (λ _. (index_of text place == 0) ≡ false)
range_starts_before text ranges place None e = tt
range_starts_before text ranges place (Some range) e =
    let h : Contains ranges range × IsRangeAtPlace place DeleteBackward range =
    subst (λ o. MatchOption o (All (λ range. ¬ IsRangeAtPlace place DeleteBackward range) ranges) (λ range. Contains ranges range × IsRangeAtPlace place DeleteBackward range)) e (MatchOption-at_place ranges place DeleteBackward) in
    ne_eqb (index_of text place) 0 (λ none. omega (arith, h.1.1))

-- with one forward, it isn't the text's end
pub range_ends_after : (text : List Symbol) (ranges : List AtomicRange) (place : Place) (found : Option AtomicRange) → AreValid (lines text) ranges →
    range_at_place ranges place DeleteForward ≡ found → IfSome found (λ _. (index_of text place == length text) ≡ false)
range_ends_after text ranges place None valid e = tt
range_ends_after text ranges place (Some range) valid e =
    let h : Contains ranges range × IsRangeAtPlace place DeleteForward range =
    subst (λ o. MatchOption o (All (λ range. ¬ IsRangeAtPlace place DeleteForward range) ranges) (λ range. Contains ranges range × IsRangeAtPlace place DeleteForward range)) e (MatchOption-at_place ranges place DeleteForward) in
    let stored : IsStoredRange text range = subst (λ o. IfSome o (IsStoredRange text)) e (range_is_stored text ranges place DeleteForward valid) in
    let row : index_of text place ≡ index_of text (range.row, place.1) = ap (λ n. index_of text (n, place.1)) (sym h.1.0) in
    ne_eqb (index_of text place) (length text) (λ at_end. omega (arith, index_within text (range_end range) stored.end_is, h.1.2, row))

-- ---- ends of a removal that are strictly inside no range

pub whole_from_ends : (ranges : List AtomicRange) (from to : Place) → All (λ range. ¬ IsInside from range) ranges → All (λ range. ¬ IsInside to range) ranges → TakesWhole ranges from to
whole_from_ends ranges from to from_out to_out k d within = removed_or_beside from to (get_or ranges k d) (from_out k d within) (to_out k d within)

none_at_place : (ranges : List AtomicRange) (place : Place) (direction : AtomicDeleteDirection) → range_at_place ranges place direction ≡ None →
    All (λ range. ¬ IsRangeAtPlace place direction range) ranges
none_at_place ranges place direction e =
    subst (λ o. MatchOption o (All (λ range. ¬ IsRangeAtPlace place direction range) ranges) (λ range. Contains ranges range × IsRangeAtPlace place direction range)) e (MatchOption-at_place ranges place direction)

-- the start and the end of a line are
pub outside_start : (ranges : List AtomicRange) (place : Place) → place.1 ≡ 0 → All (λ range. ¬ IsInside place range) ranges
outside_start ranges place e k d within h = omega (arith, h.1)

pub outside_end : (rows : List (List ℕ)) (ranges : List AtomicRange) (place : Place) → AreValid rows ranges → length (get_or rows place.0 []) ≤ place.1 → All (λ range. ¬ IsInside place range) ranges
outside_end rows ranges place valid e k d within h =
    let segment = valid.components k d within in
    omega (arith, h.2, segment.2, e, ap (λ n. length (get_or rows n [])) h.0)

-- at a break the line ends
break_at_end : (text : List Symbol) (place : Place) → IsPlace text place → OccursAt text place (Break ∷ []) → length (get_or (lines text) place.0 []) ≤ place.1
break_at_end text place h occurs =
    elim (cases_lt place.1 (length (get_or (lines text) place.0 []))) [
      | inl inside ↦
          let line = get_or (lines text) place.0 [] in
          let character = character_occurs (lines text) place.0 place.1 (get_or line place.1 0) h.0 h.1 (drop_more line place.1 0 inside) in
          let here : OccursAt text place (Character (get_or line place.1 0) ∷ []) = subst (λ t. OccursAt t place (Character (get_or line place.1 0) ∷ [])) (joined-lines text) character in
          absurd (not_both (take 1 (drop (index_of text place) text)) (get_or line place.1 0) occurs here)
      | inr up ↦ up
    ]
  where
    not_both : (symbols : List Symbol) (c : ℕ) → symbols ≡ Break ∷ [] → symbols ≡ Character c ∷ [] → ⊥
    not_both symbols c e e' = cc

-- the removal of the symbol before a position, without a range there backward, splits no range
pub before_by : (text : List Symbol) (ranges : List AtomicRange) (place from : Place) (symbol : Symbol) → AreValid (lines text) ranges → range_at_place ranges place DeleteBackward ≡ None →
    IsPlace text from → OccursAt text from (symbol ∷ []) → place ≡ end from (symbol ∷ []) → TakesWhole ranges from place
before_by text ranges place from (Character c) valid none h occurs ends =
    let free = none_at_place ranges place DeleteBackward none in
    let row : place.0 ≡ from.0 = ap (λ (p : Place). p.0) ends in
    let column : place.1 ≡ from.1 + 1 = ap (λ (p : Place). p.1) ends in
    whole_from_ends ranges from place
    (λ k d within inside. free k d within (inside.0 ∙ sym row, omega (arith, inside.1, column), omega (arith, inside.2, column)))
    (λ k d within inside. free k d within (inside.0, inside.1, omega (arith, inside.2)))
before_by text ranges place from Break valid none h occurs ends =
    whole_from_ends ranges from place (outside_end (lines text) ranges from valid (break_at_end text from h occurs)) (outside_start ranges place (ap (λ (p : Place). p.1) ends))

-- and so does the removal of the symbol after it
pub whole_after : (ranges : List AtomicRange) (place to : Place) (symbol : Symbol) → range_at_place ranges place DeleteForward ≡ None → to ≡ end place (symbol ∷ []) → TakesWhole ranges place to
whole_after ranges place to (Character c) none ends =
    let free = none_at_place ranges place DeleteForward none in
    let row : to.0 ≡ place.0 = ap (λ (p : Place). p.0) ends in
    let column : to.1 ≡ place.1 + 1 = ap (λ (p : Place). p.1) ends in
    whole_from_ends ranges place to
    (λ k d within inside. free k d within (inside.0, omega (arith, inside.1), inside.2))
    (λ k d within inside. free k d within (inside.0 ∙ row, omega (arith, inside.1, column), omega (arith, inside.2, column)))
whole_after ranges place to Break none ends =
    let free = none_at_place ranges place DeleteForward none in
    whole_from_ends ranges place to (λ k d within inside. free k d within (inside.0, omega (arith, inside.1), inside.2)) (outside_start ranges to (ap (λ (p : Place). p.1) ends))

-- a selection's beginning, moved out of a range, is still a position
unless_empty_place : (text : List Symbol) (anchor : Option Place) (cursor : Place) → IfSome anchor (IsPlace text) → IfSome (unless_empty anchor cursor) (IsPlace text)
unless_empty_place text None cursor h = tt
unless_empty_place text (Some place) cursor h = by (is_same_place place cursor)
  where
    by : (same : Bool) → IfSome (cond same None (Some place)) (IsPlace text)
    by true = tt
    by false = h

pub anchor_place : (text : List Symbol) (ranges : List AtomicRange) (anchor : Option Place) (cursor : Place) → AreValid (lines text) ranges → IfSome anchor (IsPlace text) →
    IfSome (unless_empty (anchor_out ranges anchor) cursor) (IsPlace text)
anchor_place text ranges None cursor valid h = tt
anchor_place text ranges (Some place) cursor valid h =
    unless_empty_place text (Some (moved_out ranges place Backward)) cursor (IsPlaceOf-moved_out (lines text) ranges place Backward valid h)

-- the removal of a break splits no range
pub whole_break : (text : List Symbol) (ranges : List AtomicRange) (place : Place) → AreValid (lines text) ranges → Fits text (record { place = place; symbols = Break ∷ []; inserts = false }) →
    SplitsNoRange ranges (record { place = place; symbols = Break ∷ []; inserts = false })
whole_break text ranges place valid fits =
    whole_from_ends ranges place (place.0 + 1, 0) (outside_end (lines text) ranges place valid (break_at_end text place fits.is_place fits.allowed)) (outside_start ranges (place.0 + 1, 0) refl)

-- ranges of a text whose positions are small can be moved
pub movable : (text : List Symbol) (ranges : List AtomicRange) → ((place : Place) → IsPlace text place → (place.0 < size_limit) × (place.1 ≤ size_limit)) → AreValid (lines text) ranges →
    All IsMovable ranges
movable text ranges small valid k d within =
    let range = get_or ranges k d in
    let segment = valid.components k d within in
    let after = small (range_end range) (segment.0, segment.2) in
    record { ordered = omega (arith, segment.1); row = omega (arith, after.0); column = after.1 }
