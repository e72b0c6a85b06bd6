-- The spans in front of a visual row, and their columns.
use Rattle.std.proofs.Common.{◌≡◌, ℕ, ◌+◌, ◌-◌, ◌%◌, ◌^◌, ◌<◌, ◌≤◌, ◌==◌, ◌&&◌, nat_lt, Bool, true, false, cond, List, [], ◌∷◌, ◌++◌, length, sum_by, Option, None, Some, refl, sym, ap, ◌∙◌, subst, arith, codes, IsAscii, IsUtf8}
use Rattle.std.specs.Fmt.{decimal}
use Rattle.std.specs.List.{All, fold}
use Rattle.std.specs.Option.{option_map, option_map_or}
use Rattle.std.specs.Str.{chars}
use Rattle.std.proofs.lemmas.Bool.Decides.{nat_tests}
use Rattle.std.proofs.lemmas.Fmt.{decimal_by_steps}
use Rattle.std.proofs.lemmas.List.{length-append, length-replicate}
use Rattle.std.proofs.lemmas.List.Elements.{All-append, All-cons, All-head, All-nil, All-replicate, All-tail, All-weaker}
use Rattle.std.proofs.lemmas.List.Sums.{sum_by-cons}
use Rattle.std.proofs.lemmas.Str.{chars-IsAscii, IsUtf8-from_ascii}
use Rattle.std.proofs.lemmas.Str.Ascii.{IsAscii-from_all}
use Rattle.unicode_width.specs.Width.{char_width}
use Rattle.textarea_screen.specs.declared.screen.style.Style.{Style}
use Rattle.textarea_wrap.specs.Columns.{IsVisible, plain_width}
use Rattle.textarea_highlight.specs.Highlights.{Highlights, Range, with_base, with_cursor_line, with_highlight, with_segment}
use Rattle.textarea_highlight.specs.Numbers.{number_text, spaces}
use Rattle.textarea_highlight.specs.Borders.{search_rank}
use Rattle.textarea_highlight.specs.Seen.{IsText, span_columns}
use Rattle.textarea_highlight.specs.Texts.{text_bytes_of}
use Rattle.textarea_wrap.specs.Metrics.{line_number_columns}
use Rattle.textarea_screen.specs.Text.{SpanView}
use Rattle.textarea_view.specs.Prelude.{SceneState, VisualRow, highlights_of, holds_place, number_digits, number_width, segment_in, with_cursor, with_custom, with_match, with_range_segment}
use Rattle.textarea_view.specs.Prelude.{with_row_number, with_search_matches, with_selected, with_selected_segment, byte_range, matches_in, searched_lines}
use Rattle.textarea_view.specs.SceneDrawn.{AreNumbers}
use Rattle.textarea_view.specs.SceneRows.{bare_row, match_range, with_line_number, with_number_if}

-- ---- later highlights add no spans in front

KeepsNumbers : {X : Type 0} → (Highlights → X → Highlights) → Type 0
KeepsNumbers {X} f = (h : Highlights) (x : X) → (f h x).numbers ≡ h.numbers

fold-numbers : {X : Type 0} (f : Highlights → X → Highlights) → KeepsNumbers f → (h : Highlights) (xs : List X) → (fold f h xs).numbers ≡ h.numbers
unfolding KeepsNumbers
fold-numbers f keeps h [] = refl
fold-numbers f keeps h (x ∷ xs) = fold-numbers f keeps (f h x) xs ∙ keeps h x

option-numbers : {X : Type 0} (f : Highlights → X → Highlights) → KeepsNumbers f → (h : Highlights) (o : Option X) → (option_map_or (f h) o h).numbers ≡ h.numbers
unfolding KeepsNumbers
option-numbers f keeps h None = refl
option-numbers f keeps h (Some x) = keeps h x

cond-numbers : (b : Bool) (g k h : Highlights) → g.numbers ≡ h.numbers → k.numbers ≡ h.numbers → (cond b g k).numbers ≡ h.numbers
cond-numbers true g k h first second = first
cond-numbers false g k h first second = second

segment-numbers : (row : VisualRow) (range : Range) (style : Style) (rank : ℕ) (h : Highlights) → (with_range_segment row range style rank h).numbers ≡ h.numbers
unfolding KeepsNumbers
segment-numbers row range style rank h = by (segment_in row range)
  where
    by : (o : Option (ℕ × ℕ)) → (option_map_or (λ (segment : ℕ × ℕ). with_highlight h segment.0 segment.1 style rank) o h).numbers ≡ h.numbers
    by None = refl
    by (Some segment) = refl

selected-numbers : (row : VisualRow) (h : Highlights) (range : Range) → (with_selected_segment row h range).numbers ≡ h.numbers
selected-numbers row h range = by (segment_in row range)
  where
    by : (o : Option (ℕ × ℕ)) → (option_map_or (λ (segment : ℕ × ℕ). with_segment h segment.0 segment.1 (row.is_last && nat_lt row.line range.1.0)) o h).numbers ≡ h.numbers
    by None = refl
    by (Some segment) = refl

numbers-first : (scene : SceneState) (row : VisualRow) → (highlights_of scene row).numbers ≡ (with_row_number scene row (bare_row scene row)).numbers
unfolding KeepsNumbers
numbers-first scene row =
    let numbered = with_row_number scene row (bare_row scene row) in
    let here = with_cursor scene row numbered in
    let matched = with_search_matches scene row here in
    let selected = with_selected scene row matched in
    fold-numbers (with_custom row) (λ h highlight. segment-numbers row (highlight.start, highlight.end) highlight.style highlight.priority h) selected scene.highlights
    ∙ option-numbers (with_selected_segment row) (selected-numbers row) matched (option_map (byte_range scene.rows.lines) scene.selection)
    ∙ fold-numbers (with_match scene.look.search_style row) (λ h found. segment-numbers row (match_range row found) scene.look.search_style search_rank h) here (matches_in (searched_lines scene) row.line)
    ∙ cond-numbers (holds_place row scene.cursor) (with_cursor_line numbered (scene.cursor.1 - row.first) scene.look.cursor_line_style)
    (cond (scene.cursor.0 == row.line) (with_base numbered scene.look.cursor_line_style) numbered) numbered refl
    (cond-numbers (scene.cursor.0 == row.line) (with_base numbered scene.look.cursor_line_style) numbered numbered refl refl)

-- ---- the columns of line numbers

visible-width : (text : List ℕ) → All IsVisible text → sum_by plain_width text ≡ length text
unfolding char_width
visible-width [] visible = refl
visible-width (c ∷ text) visible =
    let first = All-head IsVisible c text visible in
    let low = first.0 in
    let high = first.1 in
    let one : plain_width c ≡ 1 = grind (arith, nat_tests) in
    omega (arith, one, sum_by-cons plain_width c text, visible-width text (All-tail IsVisible c text visible))

visible-digits : (n : ℕ) → n < 2 ^ 64 → All IsVisible (decimal n)
visible-digits =
    decimal_by_steps (λ m digits. All IsVisible digits)
    (λ m small. All-cons IsVisible (48 + m) [] (omega arith, omega arith) (All-nil IsVisible))
    (λ m digits large h. All-append IsVisible digits ((48 + m % 10) ∷ []) h (All-cons IsVisible (48 + m % 10) [] (omega arith, omega arith) (All-nil IsVisible)))

ascii : (text : List ℕ) → All IsVisible text → IsAscii text
ascii text visible = IsAscii-from_all text (All-weaker IsVisible (λ (c : ℕ). c < 128) (λ c is. omega (arith, is.1)) text visible)

-- a text of visible characters of ASCII in front of a row
visible-numbers : (span : SpanView) (text : List ℕ) (columns : ℕ) → text_bytes_of span.content ≡ text → All IsVisible text → length text ≡ columns → AreNumbers (span ∷ []) columns
visible-numbers span text columns is visible len = record {
  texts = All-cons IsText span [] (subst IsUtf8 (sym is) (IsUtf8-from_ascii text (ascii text visible))) (All-nil IsText);
  columns =
      let width : span_columns span ≡ length text = ap (λ bytes. sum_by plain_width (chars bytes)) is ∙ ap (sum_by plain_width) (chars-IsAscii text (ascii text visible)) ∙ visible-width text visible in
      omega (arith, sum_by-cons span_columns span [], width, len);
}

visible-spaces : (n : ℕ) → All IsVisible (spaces n)
visible-spaces n = All-replicate IsVisible n 32 (omega arith, omega arith)

length-spaces : (n : ℕ) → length (spaces n) ≡ n
length-spaces n = length-replicate n 32

visible-number : (number width : ℕ) → number < 2 ^ 64 → All IsVisible (number_text number width)
visible-number number width fits =
    All-append IsVisible (spaces (width + 1 - length (decimal number)) ++ decimal number) (codes " ")
    (All-append IsVisible (spaces (width + 1 - length (decimal number))) (decimal number) (visible-spaces (width + 1 - length (decimal number))) (visible-digits number fits))
    (All-cons IsVisible 32 [] (omega arith, omega arith) (All-nil IsVisible))

length-number : (number width : ℕ) → length (decimal number) ≤ width → length (number_text number width) ≡ width + 2
length-number number width few =
    omega (
      arith,
      length-append (spaces (width + 1 - length (decimal number)) ++ decimal number) (codes " "),
      length-append (spaces (width + 1 - length (decimal number))) (decimal number),
      length-spaces (width + 1 - length (decimal number)),
    )

module _ (scene : SceneState) (row : VisualRow) (fits : row.line + 1 < 2 ^ 64) (few : length (decimal (row.line + 1)) ≤ number_digits scene) where
  line-numbers : (first : Bool) → AreNumbers (with_number_if first scene row (bare_row scene row)).numbers (number_digits scene + 2)
  line-numbers true =
      visible-numbers _ (number_text (row.line + 1) (number_digits scene)) (number_digits scene + 2) refl
      (visible-number (row.line + 1) (number_digits scene) fits) (length-number (row.line + 1) (number_digits scene) few)
  line-numbers false =
      visible-numbers _ (spaces (number_digits scene + 2)) (number_digits scene + 2) refl
      (visible-spaces (number_digits scene + 2)) (length-spaces (number_digits scene + 2))

row-numbers : (scene : SceneState) (row : VisualRow) → (scene.line_numbers ≡ true → (row.line + 1 < 2 ^ 64) × (length (decimal (row.line + 1)) ≤ number_digits scene)) → (numbered : Bool) → scene.line_numbers ≡ numbered →
    AreNumbers (cond numbered (with_line_number scene row (bare_row scene row)) (bare_row scene row)).numbers (line_number_columns numbered (length scene.rows.lines))
row-numbers scene row few true is = line-numbers scene row (few is).0 (few is).1 (row.start == 0)
row-numbers scene row few false is = record { texts = All-nil IsText; columns = refl }

pub are_numbers : (scene : SceneState) (row : VisualRow) → (scene.line_numbers ≡ true → (row.line + 1 < 2 ^ 64) × (length (decimal (row.line + 1)) ≤ number_digits scene)) →
    AreNumbers (highlights_of scene row).numbers (number_width scene)
are_numbers scene row few =
    subst (λ (numbers : List SpanView). AreNumbers numbers (number_width scene)) (sym (numbers-first scene row)) (row-numbers scene row few scene.line_numbers refl)
