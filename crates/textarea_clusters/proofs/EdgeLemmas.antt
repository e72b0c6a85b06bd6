-- The edges of clusters, from the breaks between a line's bytes.
use Rattle.std.proofs.Common.{◌≡◌, ◌∙◌, ◌⊎◌, inl, inr, ℕ, zero, suc, ◌+◌, ◌-◌, ◌<◌, ◌≤◌, Bool, true, false, List, [], ◌∷◌, ◌++◌, length, take, drop, reverse, slice_range, refl, sym, ap, ap₂, subst, arith, IsUtf8, IsCharBoundary, encode_utf8, encode_utf8_all}
use Rattle.std.specs.Prelude.{if◌then◌else◌}
use Rattle.std.specs.Str.{chars}
use Rattle.std.proofs.Math.Seq.{take-add}
use Rattle.std.proofs.lemmas.Bool.{false≢true, cases_lt}
use Rattle.std.proofs.lemmas.List.{drop_all, take-append-drop, length-append, length-take-le, take_at}
use Rattle.std.proofs.lemmas.Str.{IsUtf8-drop, IsUtf8-take, chars-append, chars-nil, encodes-chars, length-encode, len_utf8_bounds}
use Rattle.textarea_text.proofs.Columns.{offset_in, IsCharBoundary-column, chars-drop, chars-take}
use Rattle.unicode_segmentation.specs.Grapheme.{is_grapheme_break}
use Rattle.unicode_segmentation.specs.Segments.{breaks_at, chars_before}
use Rattle.textarea_clusters.specs.Edges.{HasNoBreak, is_cluster_edge, edge_ahead, edge_back, first_edge}

-- ---- which edge it is

pub edge_back_is : (line : List ℕ) (column edge : ℕ) → edge ≤ column → is_cluster_edge line edge ≡ true
    → ((k : ℕ) → edge < k → k ≤ column → is_cluster_edge line k ≡ false) → edge ≡ edge_back line column
unfolding edge_back
edge_back_is line zero edge le is none = omega (arith, le)
edge_back_is line (suc column) edge le is none =
    by (is_cluster_edge line (suc column)) refl (cases_lt edge (suc column)) (λ below. edge_back_is line column edge (omega (arith, below)) is (λ k more within. none k more (omega (arith, within))))
  where
    by : (b : Bool) → is_cluster_edge line (suc column) ≡ b → (edge < suc column) ⊎ (suc column ≤ edge) → (edge < suc column → edge ≡ edge_back line column) → edge ≡ (if b then suc column else edge_back line column)
    by true e (inl below) earlier = absurd (false≢true (sym (none (suc column) below (omega arith)) ∙ e))
    by true e (inr above) earlier = omega (arith, le, above)
    by false e (inl below) earlier = earlier below
    by false e (inr above) earlier =
        let same : suc column ≡ edge = omega (arith, le, above) in
        absurd (false≢true (sym e ∙ ap (is_cluster_edge line) same ∙ is))

first_edge_is : (line : List ℕ) (column more edge : ℕ) → column ≤ edge → edge ≤ column + more → is_cluster_edge line edge ≡ true
    → ((k : ℕ) → column ≤ k → k < edge → is_cluster_edge line k ≡ false) → edge ≡ first_edge line column more
unfolding first_edge
first_edge_is line column zero edge le within is none = omega (arith, le, within)
first_edge_is line column (suc more) edge le within is none =
    by (is_cluster_edge line column) refl (cases_lt column edge) (λ below. first_edge_is line (suc column) more edge (omega (arith, below)) (omega (arith, within)) is (λ k from less. none k (omega (arith, from)) less))
  where
    by : (b : Bool) → is_cluster_edge line column ≡ b → (column < edge) ⊎ (edge ≤ column) → (column < edge → edge ≡ first_edge line (suc column) more) → edge ≡ (if b then column else first_edge line (suc column) more)
    by true e (inl below) later = absurd (false≢true (sym (none column (omega arith) below) ∙ e))
    by true e (inr above) later = omega (arith, le, above)
    by false e (inl below) later = later below
    by false e (inr above) later =
        let same : column ≡ edge = omega (arith, le, above) in
        absurd (false≢true (sym e ∙ ap (is_cluster_edge line) same ∙ is))

pub edge_ahead_is : (line : List ℕ) (column edge : ℕ) → column ≤ edge → edge ≤ length line → is_cluster_edge line edge ≡ true
    → ((k : ℕ) → column ≤ k → k < edge → is_cluster_edge line k ≡ false) → edge ≡ edge_ahead line column
edge_ahead_is line column edge le within is none =
    first_edge_is line column (length line - column) edge le (omega (arith, le, within)) is none

-- ---- the line's start and end are breaks

breaks_before : (before : List ℕ) → is_grapheme_break true before [] ≡ true
unfolding is_grapheme_break
breaks_before [] = refl
breaks_before (last ∷ before) = refl

breaks_after : (after : List ℕ) → is_grapheme_break true [] after ≡ true
unfolding is_grapheme_break
breaks_after after = refl

pub edge_at_start : (line : List ℕ) → is_cluster_edge line 0 ≡ true
edge_at_start line = breaks_after line

pub edge_at_end : (line : List ℕ) → is_cluster_edge line (length line) ≡ true
edge_at_end line = ap (is_grapheme_break true (reverse (take (length line) line))) (drop_all (length line) line (omega arith)) ∙ breaks_before (reverse (take (length line) line))

pub inside_start : (line : List ℕ) (at : ℕ) → breaks_at (is_grapheme_break true) line at ≡ false → 0 < at
inside_start line zero none =
    absurd (false≢true (sym none ∙ ap (λ (cs : List ℕ). is_grapheme_break true (reverse cs) (chars line)) chars-nil ∙ breaks_after (chars line)))
inside_start line (suc at) none = omega arith

pub inside_end : (line : List ℕ) (at : ℕ) → at ≤ length line → breaks_at (is_grapheme_break true) line at ≡ false → at < length line
inside_end line at within none = by (cases_lt at (length line))
  where
    by : (at < length line) ⊎ (length line ≤ at) → at < length line
    by (inl below) = below
    by (inr above) =
        let rest : chars (drop at line) ≡ [] = ap chars (drop_all at line above) ∙ chars-nil in
        absurd (false≢true (sym none ∙ ap (is_grapheme_break true (chars_before line at)) rest ∙ breaks_before (chars_before line at)))

-- ---- columns and byte offsets

-- their offsets are in the order of the columns
offset_below : (cs : List ℕ) (i j : ℕ) → i < j → j ≤ length cs → offset_in cs i < offset_in cs j
offset_below [] i j lt le = absurd (omega arith)
offset_below (c ∷ cs) i zero lt le = absurd (omega arith)
offset_below (c ∷ cs) zero (suc j) lt le =
    omega (arith, length-append (encode_utf8 c) (encode_utf8_all (take j cs)), length-encode c, (len_utf8_bounds c).0)
offset_below (c ∷ cs) (suc i) (suc j) lt le =
    let rest = offset_below cs i j (omega arith) (omega arith) in
    omega (arith, length-append (encode_utf8 c) (encode_utf8_all (take i cs)), length-append (encode_utf8 c) (encode_utf8_all (take j cs)))

-- a character begins at the byte offset of a column, or the line ends there
pub boundary_of_column : (line : List ℕ) (column offset : ℕ) → IsUtf8 line → offset ≡ offset_in (chars line) column → IsCharBoundary line offset
boundary_of_column line column offset text is = subst (IsCharBoundary line) (sym is) (IsCharBoundary-column line column text)

-- the number of characters before a byte offset
abbrev column_at : List ℕ → ℕ → ℕ
column_at line at = length (chars (take at line))

module _ (line : List ℕ) (text : IsUtf8 line) where
  abbrev offset_of : ℕ → ℕ
  offset_of column = offset_in (chars line) column

  -- a break at a column's byte offset is an edge at the column
  pub edge_is : (column : ℕ) → breaks_at (is_grapheme_break true) line (offset_of column) ≡ is_cluster_edge (chars line) column
  edge_is column =
      let boundary = IsCharBoundary-column line column text in
      ap₂ (λ (before after : List ℕ). is_grapheme_break true (reverse before) after)
      (chars-take line (take (offset_of column) line) column text (IsUtf8-take line (offset_of column) text boundary) refl)
      (chars-drop line (drop (offset_of column) line) column text (IsUtf8-drop line (offset_of column) text boundary) refl)

  -- an offset between characters is that of its column
  offset_is : (at : ℕ) → IsCharBoundary line at → offset_of (column_at line at) ≡ at
  offset_is at boundary =
      let front = take at line in
      let is_text : IsUtf8 front = IsUtf8-take line at text boundary in
      let components : chars line ≡ chars front ++ chars (drop at line) = ap chars (sym (take-append-drop at line)) ∙ chars-append front (drop at line) is_text in
      let same : take (length (chars front)) (chars line) ≡ chars front = ap (take (length (chars front))) components ∙ take_at (chars front) (chars (drop at line)) (length (chars front)) refl in
      ap (λ cs. length (encode_utf8_all cs)) same ∙ ap length (encodes-chars front is_text) ∙ length-take-le at line boundary.0

  column_within : (at : ℕ) → IsCharBoundary line at → column_at line at ≤ length (chars line)
  column_within at boundary =
      let components : chars line ≡ chars (take at line) ++ chars (drop at line) = ap chars (sym (take-append-drop at line)) ∙ chars-append (take at line) (drop at line) (IsUtf8-take line at text boundary) in
      omega (arith, ap length components, length-append (chars (take at line)) (chars (drop at line)))

  -- the column of a column's offset is the column
  column_is : (column : ℕ) → column ≤ length (chars line) → column_at line (offset_of column) ≡ column
  column_is column within =
      ap length (chars-take line (take (offset_of column) line) column text (IsUtf8-take line (offset_of column) text (IsCharBoundary-column line column text)) refl)
      ∙ length-take-le column (chars line) within

  -- the column of a later offset, by the characters between
  column_later : (from to : ℕ) → IsCharBoundary line from → from ≤ to → column_at line to ≡ column_at line from + length (chars (slice_range line from to))
  column_later from to boundary le =
      let front = take from line in
      let sum : from + (to - from) ≡ to = omega (arith, le) in
      let parts : take to line ≡ front ++ slice_range line from to = ap (λ n. take n line) (sym sum) ∙ take-add from (to - from) line in
      ap (λ bs. length (chars bs)) parts ∙ ap length (chars-append front (slice_range line from to) (IsUtf8-take line from text boundary)) ∙ length-append (chars front) (chars (slice_range line from to))

  -- no edge between columns whose offsets have no break between them
  no_edge : (from to k : ℕ) → HasNoBreak line from to → from ≤ offset_of k → offset_of k < to → is_cluster_edge (chars line) k ≡ false
  no_edge from to k none above below = sym (edge_is k) ∙ none (offset_of k) above below (IsCharBoundary-column line k text)

  -- ---- the edge before a column, and the one after it

  module _ (column at count : ℕ) (within : column ≤ length (chars line)) (boundary : IsCharBoundary line at) (is : breaks_at (is_grapheme_break true) line at ≡ true)
      (inside : breaks_at (is_grapheme_break true) line (offset_of column) ≡ false) where
    abbrev edge : ℕ
    edge = column_at line at

    is_edge_there : is_cluster_edge (chars line) edge ≡ true
    is_edge_there = sym (edge_is edge) ∙ ap (breaks_at (is_grapheme_break true) line) (offset_is at boundary) ∙ is

    none_here : is_cluster_edge (chars line) column ≡ false
    none_here = sym (edge_is column) ∙ inside

    pub counted_back : at < offset_of column → count ≡ length (chars (slice_range line at (offset_of column))) → column ≡ edge + count
    counted_back before counted =
        omega (arith, column_is column within, column_later at (offset_of column) boundary (omega (arith, before)), counted)

    pub found_back : at < offset_of column → HasNoBreak line (at + 1) (offset_of column) → count ≡ length (chars (slice_range line at (offset_of column)))
        → column - count ≡ edge_back (chars line) column
    found_back before none counted =
        let sum = counted_back before counted in
        let is_same : column - count ≡ edge = omega (arith, sum) in
        is_same ∙ edge_back_is (chars line) column edge (omega (arith, sum)) is_edge_there (λ k after upto. by k after (cases_lt k column) upto)
      where
        by : (k : ℕ) → edge < k → (k < column) ⊎ (column ≤ k) → k ≤ column → is_cluster_edge (chars line) k ≡ false
        by k after (inl below) upto =
            let further : offset_in (chars line) (column_at line at) < offset_in (chars line) k = offset_below (chars line) edge k after (omega (arith, below, within)) in
            let above : at + 1 ≤ offset_of k = omega (arith, further, offset_is at boundary) in
            no_edge (at + 1) (offset_of column) k none above (offset_below (chars line) k column below within)
        by k after (inr above) upto =
            let same : k ≡ column = omega (arith, above, upto) in
            ap (is_cluster_edge (chars line)) same ∙ none_here

    pub counted_ahead : offset_of column < at → count ≡ length (chars (slice_range line (offset_of column) at)) → edge ≡ column + count
    counted_ahead after counted =
        omega (arith, column_is column within, column_later (offset_of column) at (IsCharBoundary-column line column text) (omega (arith, after)), counted)

    pub ahead_within : offset_of column < at → count ≡ length (chars (slice_range line (offset_of column) at)) → column + count ≤ length (chars line)
    ahead_within after counted = omega (arith, counted_ahead after counted, column_within at boundary)

    pub found_ahead : offset_of column < at → HasNoBreak line (offset_of column + 1) at → count ≡ length (chars (slice_range line (offset_of column) at))
        → column + count ≡ edge_ahead (chars line) column
    found_ahead after none counted =
        let sum = counted_ahead after counted in
        sym sum ∙ edge_ahead_is (chars line) column edge (omega (arith, sum)) (column_within at boundary) is_edge_there (λ k from below. by k (cases_lt column k) from below)
      where
        by : (k : ℕ) → (column < k) ⊎ (k ≤ column) → column ≤ k → k < edge → is_cluster_edge (chars line) k ≡ false
        by k (inl above) from below =
            let inside_line : edge ≤ length (chars line) = column_within at boundary in
            let further : offset_in (chars line) column < offset_in (chars line) k = offset_below (chars line) column k above (omega (arith, below, inside_line)) in
            let nearer : offset_in (chars line) k < offset_in (chars line) (column_at line at) = offset_below (chars line) k edge below inside_line in
            let first : offset_of column + 1 ≤ offset_of k = omega (arith, further) in
            let last : offset_of k < at = omega (arith, nearer, offset_is at boundary) in
            no_edge (offset_of column + 1) at k none first last
        by k (inr same) from below =
            let is_same : k ≡ column = omega (arith, same, from) in
            ap (is_cluster_edge (chars line)) is_same ∙ none_here
