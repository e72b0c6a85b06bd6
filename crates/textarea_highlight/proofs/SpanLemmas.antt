-- A row's segments up to a seam, and those after it. One segment may be split there.
use Rattle.std.proofs.Common.{◌≡◌, ◌⊎◌, ℕ, zero, suc, ◌+◌, ◌-◌, ◌<◌, ◌≤◌, nat_le, Bool, true, false, ◌==◌, ◌&&◌, cond, List, [], ◌∷◌, ◌++◌, length, get_or, take, drop, map, replicate, slice_range}
use Rattle.std.proofs.Common.{sum_by, Option, None, refl, sym, ap, ap₂, subst, ◌∙◌, inl, inr, ⊎_elim, arith, IsUtf8, IsCharBoundary, encode_utf8_all}
use Rattle.std.specs.List.{All, filter}
use Rattle.std.specs.Str.{chars, all_scalars}
use Rattle.std.proofs.lemmas.Bool.{cases_lt, and_parts}
use Rattle.std.proofs.lemmas.Bool.Decides.{nat_tests}
use Rattle.std.proofs.lemmas.List.{drop-drop, drop-take, length-take-le, get_or-take, take-append-drop, take-take}
use Rattle.std.proofs.lemmas.List.Elements.{All-cons, All-head, All-nil, All-tail}
use Rattle.std.proofs.lemmas.List.Sums.{sum_by-append, sum_by-cons}
use Rattle.std.proofs.lemmas.Str.{chars-append, chars-encodes, encodes-append, scalars-chars, IsCharBoundary-end, IsUtf8-between, chars-IsAscii}
use Rattle.textarea_screen.specs.Text.{SpanView}
use Rattle.textarea_screen.specs.declared.screen.style.Style.{Style}
use Rattle.textarea_wrap.specs.Columns.{IsVisible, column_after, end_column, next_stop, plain_width}
use Rattle.textarea_wrap.proofs.ColumnLemmas.{next_stop-after}
use Rattle.textarea_wrap.proofs.VisibleLemmas.{visible-ascii}
use Rattle.textarea_highlight.specs.Borders.{ArePlacedWithin}
use Rattle.unicode_width.specs.Width.{char_width}
use Rattle.textarea_highlight.specs.Brackets.{IsStyleAfter}
use Rattle.textarea_highlight.specs.Columns.{column_of}
use Rattle.textarea_highlight.specs.Display.{display_char, display_text, is_tab, with_spaces}
use Rattle.textarea_highlight.specs.Seams.{EndsPlain, IsSeam}
use Rattle.textarea_highlight.specs.Seen.{AreInTwo, IsSpanSplit, IsText, span_columns, spans_columns}
use Rattle.textarea_highlight.specs.Split.{display_segment, segment_of, IsSplit, ShowsSegment}
use Rattle.textarea_highlight.specs.Texts.{text_bytes_of}
use Rattle.textarea_highlight.specs.declared.highlight.borders.Border.{Border}
use Rattle.textarea_highlight.specs.declared.highlight.borders.BorderEffect.{BorderEffect}
use Rattle.textarea_highlight.proofs.DisplayLemmas.{with_stops}
use Rattle.textarea_highlight.proofs.OneRowLemmas.{rises}
use Rattle.textarea_highlight.proofs.PlainLemmas.{chars_upto, first_of, last_of, plain-shown, some_segment}
use Rattle.textarea_highlight.proofs.SplitLemmas.{IsEdge, column_to}
use Rattle.textarea_highlight.proofs.WholeLemmas.{chars_split, display_text-append, with_spaces-append}
use Rattle.textarea_highlight.proofs.WholeRowLemmas.{some_content}

-- ---- ranges of a list

module _ {X : Type 0} where
  slice_range-take : (xs : List X) (n from to : ℕ) → from ≤ to → to ≤ n → slice_range (take n xs) from to ≡ slice_range xs from to
  slice_range-take xs n from to order within =
      let sum : n ≡ from + (n - from) = omega arith in
      ap (λ k. take (to - from) (drop from (take k xs))) sum ∙ ap (take (to - from)) (drop-take from (n - from) xs)
      ∙ take-take (to - from) (n - from) (drop from xs) (omega arith)

  slice_range-append : (xs : List X) (from mid to : ℕ) → from ≤ mid → mid ≤ to → slice_range xs from to ≡ slice_range xs from mid ++ slice_range xs mid to
  slice_range-append xs from mid to first second =
      let sum : to - from ≡ (mid - from) + (to - mid) = omega arith in
      let at : from + (mid - from) ≡ mid = omega arith in
      sym (take-append-drop (mid - from) (take (to - from) (drop from xs)))
      ∙ ap₂ (λ (a : List X) (b : List X). a ++ b) (take-take (mid - from) (to - from) (drop from xs) (omega arith))
      (ap (λ k. drop (mid - from) (take k (drop from xs))) sum ∙ drop-take (mid - from) (to - mid) (drop from xs)
      ∙ ap (take (to - mid)) (drop-drop (mid - from) from xs ∙ ap (λ k. drop k xs) at))

-- ---- the text of a row up to an offset

pub boundary-take : (row : List ℕ) (n at : ℕ) → n ≤ length row → at ≤ n → IsCharBoundary row at → IsCharBoundary (take n row) at
boundary-take row n at within order boundary =
    let len = length-take-le n row within in (
      omega (arith, len, order),
      λ below. let inside : at < n = omega (arith, len, below) in subst (λ b. 128 ≤ b → 192 ≤ b) (sym (get_or-take n row at 0 inside)) (boundary.1 (omega arith)),
    )

pub placed-take : (row : List ℕ) (borders : List Border) (n : ℕ) → n ≤ length row → ArePlacedWithin row borders → ArePlacedWithin (take n row) borders
placed-take row borders n within placed = λ k d below inside.
    let least : (get_or borders k d).offset ≤ n = omega (arith, length-take-le n row within, inside) in
    boundary-take row n (get_or borders k d).offset within least (placed k d below (omega arith))

pub column_of-take : (row : List ℕ) (tab_len n at : ℕ) → at ≤ n → column_of (take n row) tab_len at ≡ column_of row tab_len at
column_of-take row tab_len n at order = ap (λ bytes. end_column tab_len 0 (chars bytes)) (take-take at n row order)

segment_of-take : (row : List ℕ) (n from to : ℕ) → from ≤ to → to ≤ n → segment_of (take n row) from to ≡ segment_of row from to
segment_of-take row n from to order within = ap chars (slice_range-take row n from to order within)

display_segment-take : (row : List ℕ) (tab_len : ℕ) (mask : Option ℕ) (n from to : ℕ) → from ≤ to → to ≤ n →
    display_segment (take n row) tab_len mask from to ≡ display_segment row tab_len mask from to
display_segment-take row tab_len mask n from to order within =
    ap₂ (λ (column : ℕ) (cs : List ℕ). display_text mask tab_len column cs) (column_of-take row tab_len n from (omega arith)) (segment_of-take row n from to order within)

-- ---- characters next to a seam

pub visible-chars : (c : ℕ) → IsVisible c → chars (c ∷ []) ≡ c ∷ []
visible-chars c visible = chars-IsAscii (c ∷ []) (visible-ascii (c ∷ []) (visible, tt))

-- the character before a seam ends the segment before it
segment-last : (row : List ℕ) (from at : ℕ) → IsUtf8 row → IsCharBoundary row from → from < at → (seam : IsSeam row at) →
    (cs : List ℕ) × (segment_of row from at ≡ cs ++ seam.left.last ∷ [])
segment-last row from at utf8 boundary order seam =
    last_of (chars (take from row)) (segment_of row from at) seam.left.others seam.left.last
    (sym (chars_upto row from at utf8 boundary seam.boundary order) ∙ seam.left.chars_are) (some_segment row from at utf8 boundary seam.boundary order)

-- the character after a seam begins the segment after it
segment-first : (row : List ℕ) (at to : ℕ) → IsUtf8 row → IsCharBoundary row to → at < to → (seam : IsSeam row at) →
    (cs : List ℕ) × (segment_of row at to ≡ seam.right.first ∷ cs)
segment-first row at to utf8 boundary order seam =
    first_of (segment_of row at to) (chars (drop to row)) seam.right.others seam.right.first
    (sym seam.right.chars_are ∙ chars_split row at to utf8 (omega (arith, order)) seam.boundary boundary) (some_segment row at to utf8 seam.boundary boundary order)

-- a seam before another offset
pub seam-take : (row : List ℕ) (n at : ℕ) → IsUtf8 row → IsCharBoundary row n → at < n → IsSeam row at → IsSeam (take n row) at
seam-take row n at utf8 boundary order seam =
    let sum : n ≡ at + (n - at) = omega (arith, order) in
    let rest : drop at (take n row) ≡ slice_range row at n = ap (λ k. drop at (take k row)) sum ∙ drop-take at (n - at) row in
    let next = segment-first row at n utf8 boundary order seam in
    record {
      inside = seam.inside;
      within = omega (arith, length-take-le n row boundary.0, order);
      boundary = boundary-take row n at boundary.0 (omega (arith, order)) seam.boundary;
      left = subst EndsPlain (sym (take-take at n row (omega (arith, order)))) seam.left;
      right = record { first = seam.right.first; others = next.0; chars_are = ap chars rest ∙ next.1; plain = seam.right.plain };
    }

segment-append : (row : List ℕ) (from mid to : ℕ) → IsUtf8 row → IsCharBoundary row from → IsCharBoundary row mid → from ≤ mid → mid ≤ to →
    segment_of row from to ≡ segment_of row from mid ++ segment_of row mid to
segment-append row from mid to utf8 at_from at_mid first second =
    ap chars (slice_range-append row from mid to first second)
    ∙ chars-append (slice_range row from mid) (slice_range row mid to) (IsUtf8-between row from mid utf8 first at_from at_mid)

-- ---- the text that is shown for a segment

spaces-valid : (n : ℕ) → all_scalars (replicate n 32) ≡ true
spaces-valid zero = refl
spaces-valid (suc n) = spaces-valid n

valid-append : (cs ds : List ℕ) → all_scalars cs ≡ true → all_scalars ds ≡ true → all_scalars (cs ++ ds) ≡ true
valid-append [] ds h k = k
valid-append (c ∷ cs) ds h k =
    let parts = and_parts _ (all_scalars cs) h in
    ap (λ b. b && all_scalars (cs ++ ds)) parts.0 ∙ valid-append cs ds parts.1 k

with_spaces-valid : (tab_len column : ℕ) (cs : List ℕ) → all_scalars cs ≡ true → all_scalars (with_spaces tab_len column cs) ≡ true
with_spaces-valid tab_len column [] h = refl
with_spaces-valid tab_len column (c ∷ cs) h =
    let others = with_spaces-valid tab_len (column_after tab_len column c) cs in
    by (is_tab c) refl others
  where
    by : (tab : Bool) → is_tab c ≡ tab → (all_scalars cs ≡ true → all_scalars (with_spaces tab_len (column_after tab_len column c) cs) ≡ true) →
        all_scalars (cond tab (replicate (next_stop tab_len column - column) 32) (c ∷ []) ++ with_spaces tab_len (column_after tab_len column c) cs) ≡ true
    by true e others =
        valid-append (replicate (next_stop tab_len column - column) 32) (with_spaces tab_len (column_after tab_len column c) cs) (spaces-valid (next_stop tab_len column - column))
        (others (grind (arith, nat_tests)))
    by false e others = grind (arith, nat_tests, others)

display-valid : (tab_len column : ℕ) (cs : List ℕ) → 0 < tab_len → all_scalars cs ≡ true → all_scalars (display_text None tab_len column cs) ≡ true
display-valid tab_len column cs some h = ap all_scalars (with_stops tab_len column cs some) ∙ with_spaces-valid tab_len column cs h

-- spaces take one column each
spaces-width : (n : ℕ) → sum_by plain_width (replicate n 32) ≡ n
unfolding char_width
spaces-width zero = refl
spaces-width (suc n) = omega (arith, sum_by-cons plain_width 32 (replicate n 32), spaces-width n)

char-width : (tab_len column c : ℕ) → sum_by plain_width (display_char tab_len column c) + column ≡ column_after tab_len column c
char-width tab_len column c = by (c == 9) refl
  where
    by : (tab : Bool) → (c == 9) ≡ tab → sum_by plain_width (cond tab (replicate (next_stop tab_len column - column) 32) (c ∷ [])) + column ≡ cond tab (next_stop tab_len column) (column + plain_width c)
    by true e = omega (arith, spaces-width (next_stop tab_len column - column), next_stop-after tab_len column)
    by false e = omega (arith, sum_by-cons plain_width c [])

-- what is shown takes the columns of the characters
with_spaces-width : (tab_len column : ℕ) (cs : List ℕ) → sum_by plain_width (with_spaces tab_len column cs) + column ≡ end_column tab_len column cs
with_spaces-width tab_len column [] = omega arith
with_spaces-width tab_len column (c ∷ cs) =
    omega (
      arith,
      sum_by-append plain_width (display_char tab_len column c) (with_spaces tab_len (column_after tab_len column c) cs),
      char-width tab_len column c,
      with_spaces-width tab_len (column_after tab_len column c) cs,
    )

display-width : (tab_len column : ℕ) (cs : List ℕ) → 0 < tab_len → sum_by plain_width (display_text None tab_len column cs) + column ≡ end_column tab_len column cs
display-width tab_len column cs some = ap (λ shown. sum_by plain_width shown + column) (with_stops tab_len column cs some) ∙ with_spaces-width tab_len column cs

-- ---- segments that are split

in_two-cons : (span : SpanView) (spans before after : List SpanView) → AreInTwo spans before after → AreInTwo (span ∷ spans) (span ∷ before) after
in_two-cons span spans before after (inl joined) = inl (ap (λ ss. span ∷ ss) joined)
in_two-cons span spans before after (inr split) = inr (record {
  front = span ∷ split.front;
  back = split.back;
  whole = split.whole;
  first = split.first;
  second = split.second;
  split = split.split;
  spans_are = ap (λ ss. span ∷ ss) split.spans_are;
  before_are = ap (λ ss. span ∷ ss) split.before_are;
  after_are = split.after_are;
})

marks-same : (borders : List Border) (from at to : ℕ) → from ≤ at → at < to → All (λ border. (border.offset ≤ from) ⊎ (to ≤ border.offset)) borders →
    filter (λ border. nat_le border.offset at) borders ≡ filter (λ border. nat_le border.offset from) borders
marks-same [] from at to first second uncut = refl
marks-same (border ∷ borders) from at to first second uncut =
    let here : nat_le border.offset at ≡ nat_le border.offset from =
    ⊎_elim (λ passed. grind (arith, nat_tests)) (λ ahead. grind (arith, nat_tests)) (All-head (λ (b : Border). (b.offset ≤ from) ⊎ (to ≤ b.offset)) border borders uncut) in
    ap₂ (λ (b : Bool) (bs : List Border). cond b (border ∷ bs) bs) here (marks-same borders from at to first second (All-tail (λ (b : Border). (b.offset ≤ from) ⊎ (to ≤ b.offset)) border borders uncut))

module _ (row : List ℕ) (borders : List Border) (base : Style) (tab_len : ℕ) (utf8 : IsUtf8 row) (placed : ArePlacedWithin row borders) (some : 0 < tab_len) where
  -- a segment that ends before a seam, or at it
  shorter-row : (from mid at : ℕ) (span : SpanView) → mid ≤ at → at ≤ length row → ShowsSegment row borders base tab_len None from mid span →
      ShowsSegment (take at row) borders base tab_len None from mid span
  shorter-row from mid at span order within h =
      let order' : from ≤ mid = omega (arith, h.not_empty) in
      let same = display_segment-take row tab_len None at from mid order' order in
      let same' = segment_of-take row at from mid order' order in
      record {
        not_empty = h.not_empty;
        edge = ⊎_elim (λ at_end. inl (omega (arith, at_end, order, within, length-take-le at row within))) (λ at_border. inr at_border) h.edge;
        uncut = h.uncut;
        style = h.style;
        text = h.text ∙ ap encode_utf8_all (sym same);
        borrowed = (
          (λ uncopied. let both = h.borrowed.0 uncopied in (both.0, same ∙ both.1 ∙ sym same')),
          λ both. h.borrowed.1 (both.0, sym same ∙ both.1 ∙ same'),
        );
      }

  -- the part of a segment before a seam inside, and the part after it
  segment-split : (from at to : ℕ) (span : SpanView) → IsCharBoundary row from → IsCharBoundary row to → from < at → at < to → IsSeam row at →
      ShowsSegment row borders base tab_len None from to span →
      (first : SpanView) × (second : SpanView) × ShowsSegment (take at row) borders base tab_len None from at first × ShowsSegment row borders base tab_len None at to second × IsSpanSplit span first second
  segment-split from at to span at_from at_to order order' seam h =
      let within = seam.within in
      let at_seam = seam.boundary in
      let column = column_of row tab_len from in
      let one = segment_of row from at in
      let two = segment_of row at to in
      let same = display_segment-take row tab_len None at from at (omega arith) (omega arith) in
      let same' = segment_of-take row at from at (omega arith) (omega arith) in
      let content = some_content None (segment_of (take at row) from at) (display_segment (take at row) tab_len None from at) in
      let content' = some_content None two (display_segment row tab_len None at to) in
      let last = segment-last row from at utf8 at_from order seam in
      let next = segment-first row at to utf8 at_to order' seam in
      let c = seam.left.last in
      let d = seam.right.first in
      let front = with_spaces tab_len column last.0 in
      let first_shown : display_segment row tab_len None from at ≡ front ++ c ∷ [] =
      with_stops tab_len column one some ∙ ap (with_spaces tab_len column) last.1 ∙ with_spaces-append tab_len column last.0 (c ∷ [])
      ∙ ap (λ (cs : List ℕ). front ++ (cs ++ [])) (plain-shown tab_len (end_column tab_len column last.0) c seam.left.plain) in
      let back = with_spaces tab_len (column_after tab_len (column_of row tab_len at) d) next.0 in
      let second_shown : display_segment row tab_len None at to ≡ d ∷ back =
      with_stops tab_len (column_of row tab_len at) two some ∙ ap (with_spaces tab_len (column_of row tab_len at)) next.1
      ∙ ap (λ (cs : List ℕ). cs ++ back) (plain-shown tab_len (column_of row tab_len at) d seam.right.plain) in
      let all : display_segment row tab_len None from to ≡ display_segment row tab_len None from at ++ display_segment row tab_len None at to =
      ap (display_text None tab_len column) (segment-append row from at to utf8 at_from at_seam (omega arith) (omega arith))
      ∙ display_text-append None tab_len column one two some
      ∙ ap (λ n. display_text None tab_len column one ++ display_text None tab_len n two) (column_to tab_len row from at utf8 (omega arith) at_from at_seam) in
      let first_text = content.1.0 ∙ ap encode_utf8_all same in (
        record { content = content.0; style = span.style },
        record { content = content'.0; style = span.style },
        record {
          not_empty = order;
          edge = inl (sym (length-take-le at row (omega (arith, within))));
          uncut = λ k e below. ⊎_elim (λ passed. inl passed) (λ ahead. inr (omega (arith, ahead))) (h.uncut k e below);
          style = h.style;
          text = content.1.0;
          borrowed = content.1.1;
        },
        record {
          not_empty = order';
          edge = h.edge;
          uncut = λ k e below. ⊎_elim (λ passed. inl (omega (arith, passed))) (λ ahead. inr ahead) (h.uncut k e below);
          style = subst (λ (marks : List BorderEffect). IsStyleAfter marks base span.style) (ap (map (λ (border : Border). border.mark)) (sym (marks-same borders from at to (omega arith) order' h.uncut))) h.style;
          text = content'.1.0;
          borrowed = content'.1.1;
        },
        record {
          first_style = refl;
          second_style = refl;
          text = h.text ∙ ap encode_utf8_all all ∙ encodes-append (display_segment row tab_len None from at) (display_segment row tab_len None at to)
              ∙ ap₂ (λ (a : List ℕ) (b : List ℕ). a ++ b) (sym first_text) (sym content'.1.0);
          front = front;
          back = back;
          left = c;
          right = d;
          first_text = first_text ∙ ap encode_utf8_all first_shown;
          second_text = content'.1.0 ∙ ap encode_utf8_all second_shown;
          first_valid = ap all_scalars (sym first_shown) ∙ display-valid tab_len column one some (scalars-chars (slice_range row from at) (IsUtf8-between row from at utf8 (omega arith) at_from at_seam));
          second_valid = ap all_scalars (sym second_shown)
              ∙ display-valid tab_len (column_of row tab_len at) two some (scalars-chars (slice_range row at to) (IsUtf8-between row at to utf8 (omega arith) at_seam at_to));
          left_plain = seam.left.plain;
          right_plain = seam.right.plain;
        },
      )

  edge-boundary : (to : ℕ) → to ≤ length row → IsEdge row borders to → IsCharBoundary row to
  edge-boundary to within (inl at_end) = subst (IsCharBoundary row) (sym at_end) (IsCharBoundary-end row)
  edge-boundary to within (inr at) =
      subst (IsCharBoundary row) at.4 (let offset : (get_or borders at.0 at.1).offset ≡ to = ap (λ (b : Border). b.offset) at.3 ∙ at.4 in
      subst (λ (b : Border). IsCharBoundary row b.offset) at.3 (placed at.0 at.1 at.2 (omega (arith, offset, within))))

  -- ---- the columns of segments

  segment-utf8 : (from to : ℕ) (span : SpanView) → IsCharBoundary row from → IsCharBoundary row to → ShowsSegment row borders base tab_len None from to span → IsUtf8 (text_bytes_of span.content)
  segment-utf8 from to span at_from at_to h =
      let bytes_utf8 = IsUtf8-between row from to utf8 (omega (arith, h.not_empty)) at_from at_to in
      (display_segment row tab_len None from to, (display-valid tab_len (column_of row tab_len from) (segment_of row from to) some (scalars-chars (slice_range row from to) bytes_utf8), sym h.text))

  segment-width : (from to : ℕ) (span : SpanView) → IsCharBoundary row from → IsCharBoundary row to → ShowsSegment row borders base tab_len None from to span →
      span_columns span + column_of row tab_len from ≡ column_of row tab_len to
  segment-width from to span at_from at_to h =
      let order : from ≤ to = omega (arith, h.not_empty) in
      let valid = display-valid tab_len (column_of row tab_len from) (segment_of row from to) some (scalars-chars (slice_range row from to) (IsUtf8-between row from to utf8 order at_from at_to)) in
      ap (λ cs. sum_by plain_width cs + column_of row tab_len from) (ap chars h.text ∙ chars-encodes (display_segment row tab_len None from to) valid)
      ∙ display-width tab_len (column_of row tab_len from) (segment_of row from to) some ∙ column_to tab_len row from to utf8 order at_from at_to

  pub spans-utf8 : (from : ℕ) (spans : List SpanView) (to : ℕ) → IsCharBoundary row from → to ≤ length row → IsSplit row borders base tab_len None from spans to → All IsText spans
  spans-utf8 from [] to at_from within split = All-nil IsText
  spans-utf8 from (span ∷ spans) to at_from within split =
      let at_mid = edge-boundary split.0 (omega (arith, rises row borders base tab_len None split.0 spans to split.2)) split.1.edge in
      All-cons IsText span spans (segment-utf8 from split.0 span at_from at_mid split.1) (spans-utf8 split.0 spans to at_mid within split.2)

  pub spans-width : (from : ℕ) (spans : List SpanView) (to : ℕ) → IsCharBoundary row from → to ≤ length row → IsSplit row borders base tab_len None from spans to →
      spans_columns spans + column_of row tab_len from ≡ column_of row tab_len to
  spans-width from [] to at_from within split = omega (arith, ap (column_of row tab_len) split)
  spans-width from (span ∷ spans) to at_from within split =
      let at_mid = edge-boundary split.0 (omega (arith, rises row borders base tab_len None split.0 spans to split.2)) split.1.edge in
      omega (arith, sum_by-cons span_columns span spans, segment-width from split.0 span at_from at_mid split.1, spans-width split.0 spans to at_mid within split.2)

  -- ---- the segments of a part

  -- the segments up to an offset, and those from there on
  pub record AreParts (from at : ℕ) (spans : List SpanView) : Type 0 where
    pub before : List SpanView
    pub after : List SpanView
    pub split_before : IsSplit (take at row) borders base tab_len None from before at
    pub split_after : IsSplit row borders base tab_len None at after (length row)
    pub in_two : AreInTwo spans before after

  pub parts : (from at : ℕ) (spans : List SpanView) → IsCharBoundary row from → from ≤ at → at ≤ length row → (from < at → at < length row → IsSeam row at) →
      IsSplit row borders base tab_len None from spans (length row) → AreParts from at spans
  parts from at [] at_from order within seam split =
      record { before = []; after = []; split_before = omega (arith, split, order, within); split_after = omega (arith, split, order, within); in_two = inl refl }
  parts from at (span ∷ spans) at_from order within seam split =
      let mid = split.0 in
      let segment = split.1 in
      let mid_within : mid ≤ length row = rises row borders base tab_len None mid spans (length row) split.2 in
      let at_mid = edge-boundary mid mid_within segment.edge in
      elim (cases_lt at mid) [
        | inr ended ↦
            let others = parts mid at spans at_mid ended within (λ later. seam (omega (arith, segment.not_empty, later))) split.2 in
            record {
              before = span ∷ others.before;
              after = others.after;
              split_before = (mid, shorter-row from mid at span ended within segment, others.split_before);
              split_after = others.split_after;
              in_two = in_two-cons span spans others.before others.after others.in_two;
            }
        | inl inside ↦ elim (cases_lt from at) [
          | inr begins ↦
              let same : at ≡ from = omega (arith, begins, order) in
              record {
                before = [];
                after = span ∷ spans;
                split_before = sym same;
                split_after = subst (λ n. IsSplit row borders base tab_len None n (span ∷ spans) (length row)) (sym same) split;
                in_two = inl refl;
              }
          | inl after ↦
              let two = segment-split from at mid span at_from at_mid after inside (seam after (omega (arith, inside, mid_within))) segment in
              record {
                before = two.0 ∷ [];
                after = two.1 ∷ spans;
                split_before = (at, two.2, refl);
                split_after = (mid, two.3, split.2);
                in_two = inr (record { front = []; back = spans; whole = span; first = two.0; second = two.1; split = two.4; spans_are = refl; before_are = refl; after_are = refl });
              }
        ]
      ]
