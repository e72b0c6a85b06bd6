-- The text that each removal removes is between two positions, the first one first.
use Rattle.std.proofs.Common.{◌≡◌, ℕ, zero, suc, ◌==◌, ◌<◌, ◌≤◌, nat_lt, Bool, true, false, cond, List, length, take, drop, Option, None, Some, unwrap_or, ap, refl, sym, subst, ◌∙◌, arith}
use Rattle.std.proofs.lemmas.Bool.{and_parts}
use Rattle.std.proofs.lemmas.Bool.Decides.{nat_tests}
use Rattle.std.proofs.lemmas.List.{length-take-le, take-append-drop}
use Rattle.std.specs.Option.{IfSome, option_or}
use Rattle.textarea_text.specs.Place.{Place, IsPlace, end, index_of, is_before, place_of}
use Rattle.textarea_text.specs.Text.{Symbol}
use Rattle.textarea_text.proofs.TextPlaces.{IsPlace-end, index_of-end}
use Rattle.textarea_text.specs.Nearest.{greatest_below, least_below, passing}
use Rattle.textarea_text.specs.Words.{is_past_word, is_earlier_word_start, is_later_past_word, is_word_start, next_past_word, previous_word_start}
use Rattle.textarea_ranges.specs.Lookup.{range_end, range_start}
use Rattle.textarea_data.specs.declared.range.AtomicDeleteDirection.{AtomicDeleteDirection}
use Rattle.textarea_data.specs.declared.range.AtomicRange.{AtomicRange}
use Rattle.textarea_document.specs.Edits.{HasEffect, Remove, cursor_index, range_at_cursor}
use Rattle.textarea_document.specs.Selection.{is_selected, origin, selection_end, selection_start}
use Rattle.textarea_document.specs.Sound.{IsSound}
use Rattle.textarea_document.specs.DocumentState.{DocumentState}
use Rattle.textarea_document.proofs.Orders.{index_before}
use Rattle.textarea_document.proofs.Ranges.{IsStoredRange, range_is_stored}
use Rattle.textarea_document.proofs.Sounds.{start_is_place}
use Rattle.textarea_document.specs.Target.{word_end_after, word_start_before}
use Rattle.tui_textarea.specs.Removals.{cursor_line, in_line, index_ahead, is_at_line_end}

-- ---- the selected text

origin_is_place : (text : List Symbol) (anchor : Option Place) (cursor : Place) → IfSome anchor (IsPlace text) → IsPlace text cursor → IsPlace text (unwrap_or anchor cursor)
origin_is_place text None cursor h h' = h'
origin_is_place text (Some place) cursor h h' = h

chosen : (text : List Symbol) (b : Bool) (one other : Place) → IsPlace text one → IsPlace text other → IsPlace text (cond b one other)
chosen text true one other h h' = h
chosen text false one other h h' = h'

pub selected_made : (document : DocumentState) → IsSound document → is_selected document ≡ true → HasEffect document (Remove (selection_start document) (selection_end document))
selected_made document h selected =
    let text = document.text in
    let from = origin_is_place text document.anchor document.cursor h.anchor h.cursor in
    let test = is_before document.cursor (origin document) in
    let start = chosen text test document.cursor (origin document) h.cursor from in
    let stop = chosen text test (origin document) document.cursor from h.cursor in
    (start, stop, index_before text (selection_start document) (selection_end document) start stop selected)

-- ---- the range at the cursor

pub range_removal_made : (document : DocumentState) (direction : AtomicDeleteDirection) (range : AtomicRange) → IsSound document
    → range_at_cursor document direction ≡ Some range → HasEffect document (Remove (range_start range) (range_end range))
range_removal_made document direction range h is =
    let stored : IsStoredRange document.text range = subst (λ (found : Option AtomicRange). IfSome found (IsStoredRange document.text)) is (range_is_stored document.text document.ranges document.cursor direction h.ranges) in
    (stored.start_is, stored.end_is, stored.ordered)

-- ---- by index

pub place_by_index : (text : List Symbol) (index : ℕ) → index ≤ length text → IsPlace text (place_of text index) × (index_of text (place_of text index) ≡ index)
place_by_index text index within =
    let front = take index text in
    let whole = take-append-drop index text in (
      subst (λ t. IsPlace t (end (0, 0) front)) whole (IsPlace-end front (drop index text)),
      ap (λ t. index_of t (end (0, 0) front)) (sym whole) ∙ index_of-end front (drop index text) ∙ length-take-le index text within,
    )

pub ahead_made : (document : DocumentState) (count : ℕ) → IsSound document → nat_lt (cursor_index document) (index_ahead document count) ≡ true
    → HasEffect document (Remove document.cursor (place_of document.text (index_ahead document count)))
ahead_made document count h some =
    let less : cursor_index document < index_ahead document count = grind (arith, nat_tests) in
    let to = place_by_index document.text (index_ahead document count) (omega arith) in
    (h.cursor, to.0, omega (arith, less, to.1))

pub whole_made : (document : DocumentState) → 0 < length document.text → HasEffect document (Remove (0, 0) (place_of document.text (length document.text)))
whole_made document some =
    let to = place_by_index document.text (length document.text) (omega arith) in
    (start_is_place document.text, to.0, omega (arith, some, to.1))

-- ---- in the cursor's line

in_line_made : (document : DocumentState) (from to : ℕ) → IsSound document → from < to → to ≤ length (cursor_line document) → HasEffect document (Remove (in_line document from) (in_line document to))
in_line_made document from to h less within = ((h.cursor.0, omega arith), (h.cursor.0, within), omega arith)

differs : (m n : ℕ) → m ≤ n → (m == n) ≡ false → m < n
differs m n within apart = grind (arith, nat_tests)

pub line_end_made : (document : DocumentState) → IsSound document → is_at_line_end document ≡ false → HasEffect document (Remove document.cursor (in_line document (length (cursor_line document))))
line_end_made document h inside =
    in_line_made document document.cursor.1 (length (cursor_line document)) h (differs document.cursor.1 (length (cursor_line document)) h.cursor.1 inside) (omega arith)

pub some_number : (m : ℕ) → (m == 0) ≡ false → 0 < m
some_number m apart = grind (arith, nat_tests)

pub below : (m n : ℕ) → nat_lt m n ≡ true → m < n
below m n test = grind (arith, nat_tests)

pub line_head_made : (document : DocumentState) → IsSound document → (document.cursor.1 == 0) ≡ false → HasEffect document (Remove (in_line document 0) document.cursor)
line_head_made document h inside = in_line_made document 0 document.cursor.1 h (grind (arith, nat_tests)) h.cursor.1

-- ---- words

passes : (test : ℕ → Bool) (b : Bool) (e found : ℕ) → test e ≡ b → cond b (Some e) None ≡ Some found → test found ≡ true
passes test true e found is h = let same : e ≡ found = cc in subst (λ n. test n ≡ true) same is
passes test false e found is h = absurd cc

one_passes : (test : ℕ → Bool) (one other : Option ℕ) (found : ℕ) → ((e : ℕ) → one ≡ Some e → test e ≡ true) → ((e : ℕ) → other ≡ Some e → test e ≡ true) → option_or one other ≡ Some found → test found ≡ true
one_passes test None other found h k is = k found is
one_passes test (Some e) other found h k is = h found is

greatest_passes : (test : ℕ → Bool) (n found : ℕ) → greatest_below test n ≡ Some found → test found ≡ true
greatest_passes test zero found is = absurd cc
greatest_passes test (suc n) found is =
    one_passes test (passing test n) (greatest_below test n) found (λ e at. passes test (test n) n e refl at) (λ e. greatest_passes test n e) is

least_passes : (test : ℕ → Bool) (n found : ℕ) → least_below test n ≡ Some found → test found ≡ true
least_passes test zero found is = absurd cc
least_passes test (suc n) found is =
    one_passes test (least_below test n) (passing test n) found (λ e. least_passes test n e) (λ e at. passes test (test n) n e refl at) is

start_before : (line : List ℕ) (column : ℕ) (found : Option ℕ) → 0 < column → previous_word_start line column ≡ found → unwrap_or found 0 < column
start_before line column None some is = some
start_before line column (Some start) some is =
    below start column (and_parts (nat_lt start column) (is_word_start line start) (greatest_passes (is_earlier_word_start line column) (length line) start is)).0

pub word_start_made : (document : DocumentState) → IsSound document → (document.cursor.1 == 0) ≡ false → HasEffect document (Remove (in_line document (word_start_before (cursor_line document) document.cursor.1)) document.cursor)
word_start_made document h inside =
    let line = cursor_line document in
    let column = document.cursor.1 in
    in_line_made document (word_start_before line column) column h (start_before line column (previous_word_start line column) (some_number column inside) refl) h.cursor.1

end_after : (line : List ℕ) (column : ℕ) (found : Option ℕ) → column < length line → next_past_word line column ≡ found → (column < unwrap_or found (length line)) × (unwrap_or found (length line) ≤ length line)
end_after line column None inside is = (inside, omega arith)
end_after line column (Some stop) inside is =
    let widget = and_parts (nat_lt column stop) (is_past_word line stop) (least_passes (is_later_past_word line column) (length line) stop is) in
    let within : stop < length line = below stop (length line) (and_parts (nat_lt stop (length line)) _ widget.1).0 in
    (below column stop widget.0, omega arith)

pub word_end_made : (document : DocumentState) → IsSound document → is_at_line_end document ≡ false → HasEffect document (Remove document.cursor (in_line document (word_end_after (cursor_line document) document.cursor.1)))
word_end_made document h inside =
    let line = cursor_line document in
    let column = document.cursor.1 in
    let ends = end_after line column (next_past_word line column) (differs column (length line) h.cursor.1 inside) refl in
    in_line_made document column (word_end_after line column) h ends.0 ends.1
