-- The matches of a pattern rise: each starts after the start of the one before it.
use Rattle.std.proofs.Common.{◌≡◌, ◌∙◌, ℕ, zero, suc, ◌+◌, ◌<◌, ◌≤◌, List, [], ◌∷◌, ◌++◌, map, length, get_or, Option, None, Some, sym, ap, subst, inl, inr, ⊎_elim, arith, true, false, refl}
use Rattle.std.proofs.Common.{IsUtf8, IsCharBoundary, encode_utf8_all, String, string_bytes, Global}
use Rattle.std.specs.Prelude.{All}
use Rattle.std.specs.Option.{option_map_or}
use Rattle.std.specs.Str.{chars}
use Rattle.std.proofs.lemmas.Bool.{cases_lt}
use Rattle.std.proofs.lemmas.Bool.Decides.{nat_tests}
use Rattle.std.proofs.lemmas.Option.{same_Some}
use Rattle.std.proofs.lemmas.Str.{IsUtf8-string_bytes}
use Rattle.std.proofs.lemmas.List.Elements.{All-append, All-cons, All-head, All-map, All-nil, All-tail, All-weaker}
use Rattle.regex_syntax.specs.Brackets.{Nested}
use Rattle.regex_syntax.specs.Grammar.{Names, read}
use Rattle.regex_hir.specs.Re.{Re}
use Rattle.regex_hir.specs.Find.{Match, find_all_str, find_str}
use Rattle.regex_hir.proofs.FindLemmas.{IsFirst-of_first_between, first_between_of_IsFirst}
use Rattle.regex_hir.proofs.OptionLemmas.{option_cases}
use Rattle.regex.specs.Patterns.{default_config, span}
use Rattle.regex.specs.Search.{next_match}
use Rattle.regex.proofs.SearchLemmas.{next_within, leftmost_within, matches_after_none, matches_after_some, matches_after_text}
use Rattle.textarea_search.specs.Columns.{column_of_byte}
use Rattle.textarea_search.specs.Matches.{match_columns, match_spans}
use Rattle.textarea_search.specs.Spans.{spans_after}
use Rattle.textarea_search.specs.Starts.{is_later, starts_from}
use Rattle.textarea_search.proofs.ColumnLemmas.{byte_at, column_at_boundary, column_later, column_of_span}
use Rattle.textarea_search.proofs.ListedLemmas.{leftmost_boundary, next_found}
use Rattle.textarea_text.specs.Place.{Place}
use Rattle.textarea_text.specs.Text.{Symbol, lines, lines_of}
use Rattle.tui_textarea.specs.Matches.{AreInTextOrder}
use Rattle.tui_textarea.specs.Search.{match_starts, starts_in}
use Rattle.tui_textarea.specs.State.{State}
use Rattle.tui_textarea.proofs.WholeStarts.{unit_order}
use Rattle.tui_textarea.proofs.Searches.{bytes_of}

-- the numbers rise strictly, from this one on
abbrev pub Rise : ℕ → List ℕ → Type 0
Rise low [] = Unit {0}
Rise low (n ∷ rest) = (low ≤ n) × Rise (n + 1) rest

-- the spans start between characters, the first one at this byte or later, and each of the others
-- after the start of the one before it
abbrev SpansRise : List ℕ → ℕ → List (ℕ × ℕ) → Type 0
SpansRise line low [] = Unit {0}
SpansRise line low (s ∷ rest) = (low ≤ s.0) × IsCharBoundary line s.0 × SpansRise line (s.0 + 1) rest

module _ (tree : Re) (line : List ℕ) where
  -- a search from a match's start finds this match
  same_start : (from : ℕ) (m : Match) → find_str tree line from ≡ Some m → find_str tree line m.start ≡ Some m
  unfolding find_str
  same_start from m e =
      let first = IsFirst-of_first_between _ from (length line) m e in
      first_between_of_IsFirst _ m.start (length line) m (record { from = omega arith; to = first.to; here = first.here; before = λ i p q. absurd (omega arith) })

  next_rises : (from : ℕ) (m n : Match) → find_str tree line from ≡ Some m → next_match true tree line (m.trace.end + 1) ≡ Some n → m.start < n.start
  next_rises from m n found next =
      let by = next_found tree line (m.trace.end + 1) n next in
      let ordered = leftmost_within tree line true from m found in
      let later = leftmost_within tree line true by.0 n by.2 in
      let ends = next_within tree line true (m.trace.end + 1) n next in
      elim (cases_lt m.start n.start) [
        | inl less ↦ less
        | inr more ↦
            let at : m.start ≡ by.0 = omega (arith, ordered, later, by.1, more) in
            let again : find_str tree line by.0 ≡ Some m = subst (λ (k : ℕ). find_str tree line k ≡ Some m) at (same_start from m found) in
            let same : m ≡ n = same_Some m n (sym again ∙ by.2) in
            let end : m.trace.end ≡ n.trace.end = ap (λ (x : Match). x.trace.end) same in
            absurd (omega (arith, ends.0, end))
      ]

  spans_rise : (count after low : ℕ) → length line + 1 ≤ after + count → ((n : Match) → next_match true tree line after ≡ Some n → low ≤ n.start)
      → SpansRise line low (spans_after tree line after)
  spans_rise zero after low room bound =
      ⊎_elim
      (λ none. subst (λ ms. SpansRise line low (map span ms)) (sym (matches_after_none tree line true after none)) tt)
      (λ (some : (x : Match) × (_ ≡ Some x)). absurd (omega (arith, next_within tree line true after some.0 some.1, room)))
      (option_cases (next_match true tree line after))
  spans_rise (suc count) after low room bound =
      ⊎_elim
      (λ none. subst (λ ms. SpansRise line low (map span ms)) (sym (matches_after_none tree line true after none)) tt)
      (λ (some : (x : Match) × (_ ≡ Some x)).
      let m = some.0 in
      let found = next_found tree line after m some.1 in
      let within = next_within tree line true after m some.1 in
      subst (λ ms. SpansRise line low (map span ms)) (sym (matches_after_some tree line true after m some.1))
      (bound m some.1, (leftmost_boundary tree line found.0 m found.2).1, spans_rise count (m.trace.end + 1) (m.start + 1) (omega (arith, within, room)) (λ n next. omega (arith, next_rises found.0 m n found.2 next))))
      (option_cases (next_match true tree line after))

-- ---- columns

column_less : (line : List ℕ) (from to : ℕ) → IsUtf8 line → IsCharBoundary line from → IsCharBoundary line to → from < to → column_of_byte line from < column_of_byte line to
column_less line from to text start stop less =
    let later = column_later line from to text start (omega arith) stop.0 in
    elim (cases_lt (column_of_byte line from) (column_of_byte line to)) [
      | inl lt ↦ lt
      | inr ge ↦
          let same : column_of_byte line from ≡ column_of_byte line to = omega (arith, later) in
          let bytes : from ≡ to = sym (column_at_boundary line from text start).1 ∙ ap (byte_at (chars line)) same ∙ (column_at_boundary line to text stop).1 in
          absurd (omega (arith, bytes))
    ]

columns_after_byte : (line : List ℕ) → IsUtf8 line → (byte : ℕ) → IsCharBoundary line byte → (spans : List (ℕ × ℕ)) → SpansRise line (byte + 1) spans
    → Rise (column_of_byte line byte + 1) (map (column_of_span line) spans)
columns_after_byte line text byte start [] h = tt
columns_after_byte line text byte start (s ∷ rest) h =
    (omega (arith, column_less line byte s.0 text start h.1 (omega (arith, h.0))), columns_after_byte line text s.0 h.1 rest h.2)

columns_of_spans : (line : List ℕ) → IsUtf8 line → (spans : List (ℕ × ℕ)) → SpansRise line 0 spans → Rise 0 (map (column_of_span line) spans)
columns_of_spans line text [] h = tt
columns_of_spans line text (s ∷ rest) h = (omega arith, columns_after_byte line text s.0 h.1 rest h.2)

by_reading : (line : List ℕ) (o : Option (Nested Re × Names)) → SpansRise line 0 (option_map_or (λ (found, _). map span (find_all_str found.value line)) o [])
by_reading line None = tt
by_reading line (Some (found, names)) =
    subst (λ ms. SpansRise line 0 (map span ms)) (matches_after_text found.value line)
    (spans_rise found.value line (length line + 1) 0 0 (omega arith) (λ n next. omega arith))

-- the columns at which the matches of a line start rise
pub columns_rise : (pattern line : List ℕ) → IsUtf8 line → Rise 0 (match_columns pattern line)
unfolding match_spans
columns_rise pattern line text = columns_of_spans line text (match_spans pattern line) (by_reading line (read default_config (chars pattern)))

-- ---- positions

later_all : (place : Place) (row : ℕ) (columns : List ℕ) (low : ℕ) → place.0 ≡ row → place.1 < low → Rise low columns → All (λ other. is_later place false other ≡ true) (map (λ column. (row, column)) columns)
later_all place row [] low same less h = All-nil (λ other. is_later place false other ≡ true)
later_all place row (c ∷ rest) low same less h =
    All-cons (λ other. is_later place false other ≡ true) (row, c) (map (λ column. (row, column)) rest) (later place row c same (omega (arith, h.0)))
    (later_all place row rest (c + 1) same (omega (arith, h.0)) h.1)
  where
    later : (place : Place) (row column : ℕ) → place.0 ≡ row → place.1 < column → is_later place false (row, column) ≡ true
    later place row column same less = grind (arith, nat_tests)

sorted_row : (row low : ℕ) (columns : List ℕ) → Rise low columns → AreInTextOrder (map (λ column. (row, column)) columns)
sorted_row row low [] h = tt
sorted_row row low (c ∷ rest) h = (later_all (row, c) row rest (c + 1) refl (omega arith) h.1, sorted_row row (c + 1) rest h.1)

sorted_append : (xs ys : List Place) → AreInTextOrder xs → AreInTextOrder ys → All (λ x. All (λ other. is_later x false other ≡ true) ys) xs → AreInTextOrder (xs ++ ys)
sorted_append [] ys h k later = k
sorted_append (x ∷ xs) ys h k later = (
  All-append (λ other. is_later x false other ≡ true) xs ys h.0 (All-head (λ x. All (λ other. is_later x false other ≡ true) ys) x xs later),
  sorted_append xs ys h.1 k (All-tail (λ x. All (λ other. is_later x false other ≡ true) ys) x xs later),
)

below_all : (row : ℕ) (columns : List ℕ → List ℕ) (at : ℕ) (lines : List (List ℕ)) → row ≤ at → All (λ place. row ≤ place.0) (starts_from columns at lines)
below_all row columns at [] le = All-nil (λ (place : Place). row ≤ place.0)
below_all row columns at (line ∷ lines) le =
    All-append (λ (place : Place). row ≤ place.0) (map (λ column. (at, column)) (columns line)) (starts_from columns (at + 1) lines)
    (All-map (λ (place : Place). row ≤ place.0) (λ column. (at, column)) (columns line) (λ k d lt. le)) (below_all row columns (at + 1) lines (omega arith))

above_later : (row column : ℕ) (other : Place) → row + 1 ≤ other.0 → is_later (row, column) false other ≡ true
above_later row column other le = grind (arith, nat_tests)

sorted_from : (columns : List ℕ → List ℕ) (row : ℕ) (rows : List (String Global)) → ((line : List ℕ) → IsUtf8 line → Rise 0 (columns line)) → AreInTextOrder (starts_from columns row (map string_bytes rows))
sorted_from columns row [] rise = tt
sorted_from columns row (line ∷ rows) rise =
    let found = columns (string_bytes line) in
    let rest = starts_from columns (row + 1) (map string_bytes rows) in
    sorted_append (map (λ column. (row, column)) found) rest (sorted_row row 0 found (rise (string_bytes line) (IsUtf8-string_bytes line))) (sorted_from columns (row + 1) rows rise)
    (All-map (λ (x : Place). All (λ other. is_later x false other ≡ true) rest) (λ column. (row, column)) found
    (λ k d lt. All-weaker (λ (place : Place). row + 1 ≤ place.0) (λ other. is_later (row, get_or found k d) false other ≡ true) (λ other le. above_later row (get_or found k d) other le) rest
    (below_all (row + 1) columns (row + 1) (map string_bytes rows) (omega arith))))

-- the starts of a pattern's matches in a text are in the order of the text, each once
pub starts_sorted : (pattern : Option (List ℕ)) (text : List Symbol) (rows : List (String Global)) → lines_of rows ≡ lines text → AreInTextOrder (starts_in pattern text)
starts_sorted None text rows is = tt
starts_sorted (Some pattern) text rows is =
    subst (λ (bytes : List (List ℕ)). AreInTextOrder (starts_from (match_columns pattern) 0 bytes)) (bytes_of rows ∙ ap (map encode_utf8_all) is)
    (sorted_from (match_columns pattern) 0 rows (columns_rise pattern))

-- so are those that count
pub match_starts_sorted : (state : State) (rows : List (String Global)) → lines_of rows ≡ lines state.document.text → AreInTextOrder (match_starts state)
match_starts_sorted state rows is =
    unit_order state.settings.cursor_unit state.pattern state.document.text (starts_sorted state.pattern state.document.text rows is)
