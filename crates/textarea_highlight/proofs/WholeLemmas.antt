-- With tab stops, the segments of a row together show the row as a whole.
use Rattle.std.proofs.Common.{◌≡◌, ℕ, ◌<◌, ◌≤◌, List, [], ◌∷◌, ◌++◌, take, drop, length, slice_range, Option, None, Some, refl, ap, ◌∙◌, arith, All, IsUtf8, IsCharBoundary, encode_utf8_all}
use Rattle.std.specs.Str.{chars}
use Rattle.std.proofs.lemmas.Grind.{common_steps}
use Rattle.std.proofs.lemmas.List.{append_assoc, map-append, drop_all}
use Rattle.std.proofs.lemmas.List.Folds.{drop_split}
use Rattle.std.proofs.lemmas.Str.{chars-append, encodes-append, chars-nil, IsUtf8-between, IsCharBoundary-start, IsCharBoundary-end}
use Rattle.textarea_screen.specs.declared.screen.style.Style.{Style}
use Rattle.textarea_screen.specs.Text.{SpanView}
use Rattle.textarea_wrap.specs.Columns.{column_after, end_column}
use Rattle.textarea_highlight.specs.declared.highlight.borders.Border.{Border}
use Rattle.textarea_highlight.specs.Display.{with_spaces, display_text}
use Rattle.textarea_highlight.specs.Split.{segment_of, IsSplit, text_of_spans}
use Rattle.textarea_highlight.proofs.DisplayLemmas.{stops}
use Rattle.textarea_highlight.proofs.SplitLemmas.{IsEdge, column_to}

pub with_spaces-append : (tab_len column : ℕ) (xs ys : List ℕ) →
    with_spaces tab_len column (xs ++ ys) ≡ with_spaces tab_len column xs ++ with_spaces tab_len (end_column tab_len column xs) ys
with_spaces-append tab_len column [] ys = refl
with_spaces-append tab_len column (x ∷ xs) ys = rw (with_spaces-append tab_len (column_after tab_len column x) xs ys) (simp append_assoc)

pub display_text-append : (mask : Option ℕ) (tab_len column : ℕ) (xs ys : List ℕ) → 0 < tab_len →
    display_text mask tab_len column (xs ++ ys) ≡ display_text mask tab_len column xs ++ display_text mask tab_len (end_column tab_len column xs) ys
display_text-append (Some mask) tab_len column xs ys h = map-append (λ _. mask) xs ys
display_text-append None tab_len column xs ys h = rw (stops tab_len h) (with_spaces-append tab_len column xs ys)

display_text-nil : (mask : Option ℕ) (tab_len column : ℕ) → 0 < tab_len → display_text mask tab_len column [] ≡ []
display_text-nil (Some mask) tab_len column h = refl
display_text-nil None tab_len column h = rw (stops tab_len h) refl

edge_boundary : (row : List ℕ) (borders : List Border) (to : ℕ) → All (λ border. IsCharBoundary row border.offset) borders → IsEdge row borders to → IsCharBoundary row to
edge_boundary row borders to placed edge = grind (arith, common_steps, IsCharBoundary-end row)

pub chars_split : (row : List ℕ) (from to : ℕ) → IsUtf8 row → from ≤ to → IsCharBoundary row from → IsCharBoundary row to →
    chars (drop from row) ≡ segment_of row from to ++ chars (drop to row)
chars_split row from to u le at at' =
    ap chars (drop_split row from to le) ∙ chars-append (slice_range row from to) (drop to row) (IsUtf8-between row from to u le at at')

whole_from : (row : List ℕ) (borders : List Border) (base : Style) (tab_len : ℕ) (mask : Option ℕ) (from : ℕ) (spans : List SpanView) →
    IsUtf8 row → All (λ border. IsCharBoundary row border.offset) borders → 0 < tab_len → IsCharBoundary row from →
    IsSplit row borders base tab_len mask from spans (length row) →
    text_of_spans spans ≡ encode_utf8_all (display_text mask tab_len (end_column tab_len 0 (chars (take from row))) (chars (drop from row)))
whole_from row borders base tab_len mask from [] u placed h at split =
    rw (drop_all from row (omega (arith, split)), chars-nil, display_text-nil mask tab_len (end_column tab_len 0 (chars (take from row))) h) refl
whole_from row borders base tab_len mask from (span ∷ spans) u placed h at split =
    let mid = split.0 in
    let at' = edge_boundary row borders mid placed split.1.edge in
    let le : from ≤ mid = omega (arith, split.1.not_empty) in
    let column = end_column tab_len 0 (chars (take from row)) in
    rw (
      split.1.text,
      whole_from row borders base tab_len mask mid spans u placed h at' split.2,
      ← column_to tab_len row from mid u le at at',
      chars_split row from mid u le at at',
      display_text-append mask tab_len column (segment_of row from mid) (chars (drop mid row)) h,
      encodes-append,
    ) refl

pub whole : (row : List ℕ) (borders : List Border) (base : Style) (tab_len : ℕ) (mask : Option ℕ) (spans : List SpanView) →
    IsUtf8 row → All (λ border. IsCharBoundary row border.offset) borders → 0 < tab_len →
    IsSplit row borders base tab_len mask 0 spans (length row) →
    text_of_spans spans ≡ encode_utf8_all (display_text mask tab_len 0 (chars row))
whole row borders base tab_len mask spans u placed h split =
    grind (arith, common_steps, whole_from row borders base tab_len mask 0 spans u placed h (IsCharBoundary-start row u) split, IsCharBoundary-start row u, chars-nil)
