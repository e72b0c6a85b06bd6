-- The matches of a pattern follow one another: each begins at or after the end of the one before it.
use Rattle.std.proofs.Common.{◌≡◌, ◌≤◌, ◌+◌, ◌-◌, ℕ, zero, suc, Bool, true, false, cond, List, [], ◌∷◌, ◌++◌, length, map, take, Option, None, Some, encode_utf8_all, ap, arith, subst, sym, ⊎_elim}
use Rattle.std.specs.Prelude.{filter}
use Rattle.std.specs.Option.{option_map_or}
use Rattle.std.specs.Str.{chars}
use Rattle.std.proofs.lemmas.List.{map-append, take-take}
use Rattle.regex_hir.specs.Find.{Match, find_all_str}
use Rattle.regex_hir.specs.Re.{Re}
use Rattle.regex_hir.proofs.OptionLemmas.{option_cases}
use Rattle.regex_syntax.specs.Brackets.{Nested}
use Rattle.regex_syntax.specs.Grammar.{Names, read}
use Rattle.regex.specs.Patterns.{default_config, span}
use Rattle.regex.specs.Search.{next_match}
use Rattle.regex.proofs.SearchLemmas.{leftmost_within, matches_after_none, matches_after_some, matches_after_text, next_within}
use Rattle.textarea_search.specs.ColumnPairs.{columns_of_span, match_column_pairs}
use Rattle.textarea_search.specs.Columns.{column_of_byte}
unfoldable use Rattle.textarea_search.specs.Matches.{match_spans}
use Rattle.textarea_search.specs.Spans.{spans_after}
use Rattle.textarea_search.specs.TextMatches.{matches_from, text_match}
use Rattle.textarea_search.specs.declared.search.text_matches.TextMatch.{TextMatch}
use Rattle.textarea_search.proofs.ListedLemmas.{next_found}
use Rattle.textarea_text.specs.Text.{Symbol}
use Rattle.textarea_text.proofs.TextPlaces.{index_within}
use Rattle.tui_textarea.specs.WholeMatches.{indices_of}
use Rattle.tui_textarea.proofs.FoundPlaces.{column_within, encoded_as_many, fewer}
use Rattle.tui_textarea.proofs.RowPlaces.{AreRowsFrom, column_place, index_here, rows_after}
use Rattle.tui_textarea.proofs.WholeStretches.{AreInOrder}

-- ---- the spans of a line

-- the first one begins at this byte or later, and each of the others where the one before it ends, or later
abbrev SpansFollow : ℕ → List (ℕ × ℕ) → Type 0
SpansFollow low [] = Unit {0}
SpansFollow low (s ∷ rest) = (low ≤ s.0) × (s.0 ≤ s.1) × SpansFollow s.1 rest

module _ (tree : Re) (line : List ℕ) where
  spans_follow : (count after : ℕ) → length line + 1 ≤ after + count → SpansFollow (after - 1) (spans_after tree line after)
  spans_follow zero after room =
      ⊎_elim
      (λ none. subst (λ ms. SpansFollow (after - 1) (map span ms)) (sym (matches_after_none tree line true after none)) tt)
      (λ (some : (x : Match) × (_ ≡ Some x)). absurd (omega (arith, next_within tree line true after some.0 some.1, room)))
      (option_cases (next_match true tree line after))
  spans_follow (suc count) after room =
      ⊎_elim
      (λ none. subst (λ ms. SpansFollow (after - 1) (map span ms)) (sym (matches_after_none tree line true after none)) tt)
      (λ (some : (x : Match) × (_ ≡ Some x)).
      let m = some.0 in
      let by = next_found tree line after m some.1 in
      let lies = leftmost_within tree line true by.0 m by.2 in
      let within = next_within tree line true after m some.1 in
      let back : m.trace.end + 1 - 1 ≡ m.trace.end = omega arith in
      let later : SpansFollow m.trace.end (spans_after tree line (m.trace.end + 1)) =
      subst (λ n. SpansFollow n (spans_after tree line (m.trace.end + 1))) back (spans_follow count (m.trace.end + 1) (omega (arith, within, room))) in
      subst (λ ms. SpansFollow (after - 1) (map span ms)) (sym (matches_after_some tree line true after m some.1)) (omega (arith, by.1, lies.0), lies.1, later))
      (option_cases (next_match true tree line after))

by_reading : (line : List ℕ) (o : Option (Nested Re × Names)) → SpansFollow 0 (option_map_or (λ (found, _). map span (find_all_str found.value line)) o [])
by_reading line None = tt
by_reading line (Some (found, names)) =
    subst (λ ms. SpansFollow 0 (map span ms)) (matches_after_text found.value line) (spans_follow found.value line (length line + 1) 0 (omega arith))

match_spans_follow : (pattern line : List ℕ) → SpansFollow 0 (match_spans pattern line)
unfolding match_spans
match_spans_follow pattern line = by_reading line (read default_config (chars pattern))

-- ---- their columns, as indices of the text

column_rises : (line : List ℕ) (from to : ℕ) → from ≤ to → column_of_byte line from ≤ column_of_byte line to
column_rises line from to up = omega (arith, fewer from (take to line), ap (λ bytes. length (chars bytes)) (take-take from to line up))

pub in_order_from : (low high size : ℕ) (stretches : List (ℕ × ℕ)) → low ≤ high → AreInOrder high size stretches → AreInOrder low size stretches
in_order_from low high size [] up h = tt
in_order_from low high size (stretch ∷ rest) up h = (omega (arith, up, h.0), h.1, h.2, h.3)

-- those of one line, and after them others
line_in_order : (row before size low : ℕ) (line : List ℕ) (spans more : List (ℕ × ℕ)) → before + length line ≤ size → SpansFollow low spans → AreInOrder (before + length line + 1) size more
    → AreInOrder (before + column_of_byte (encode_utf8_all line) low) size (map indices_of (map (text_match row before) (map (columns_of_span (encode_utf8_all line)) spans)) ++ more)
line_in_order row before size low line [] more room follow later =
    in_order_from (before + column_of_byte (encode_utf8_all line) low) (before + length line + 1) size more (omega (arith, column_within line low)) later
line_in_order row before size low line (s ∷ spans) more room follow later =
    let bytes = encode_utf8_all line in (
      omega (arith, column_rises bytes low s.0 follow.0),
      omega (arith, column_rises bytes s.0 s.1 follow.1),
      omega (arith, column_within line s.1, room),
      line_in_order row before size s.1 line spans more room follow.2 later,
    )

pub matches_in_order : (pattern : List ℕ) (text : List Symbol) (row before : ℕ) (rows : List (List ℕ)) → AreRowsFrom text row before rows
    → AreInOrder before (length text) (map indices_of (matches_from (match_column_pairs pattern) row before (map encode_utf8_all rows)))
matches_in_order pattern text row before [] from = tt
matches_in_order pattern text row before (line ∷ rest) from =
    let size = length text in
    let bytes = encode_utf8_all line in
    let spans = match_spans pattern bytes in
    let here = map (text_match row before) (map (columns_of_span bytes) spans) in
    let after = before + length (chars bytes) + 1 in
    let later = matches_from (match_column_pairs pattern) (row + 1) after (map encode_utf8_all rest) in
    let next : before + length line + 1 ≡ after = omega (arith, encoded_as_many line) in
    let others : AreInOrder (before + length line + 1) size (map indices_of later) =
    subst (λ n. AreInOrder (before + length line + 1) size (map indices_of (matches_from (match_column_pairs pattern) (row + 1) n (map encode_utf8_all rest)))) next
    (matches_in_order pattern text (row + 1) (before + length line + 1) rest (rows_after text row before line rest from)) in
    let place = column_place text row before line rest from (length line) (omega arith) in
    let room : before + length line ≤ size = omega (arith, index_within text (row, length line) place, index_here text row before line rest from (length line)) in
    subst (AreInOrder before size) (sym (map-append indices_of here later))
    (in_order_from before (before + column_of_byte bytes 0) size (map indices_of here ++ map indices_of later) (omega arith)
    (line_in_order row before size 0 line spans (map indices_of later) room (match_spans_follow pattern bytes) others))

-- so are some of them
pub kept_in_order : (test : TextMatch → Bool) (low size : ℕ) (found : List TextMatch) → AreInOrder low size (map indices_of found) → AreInOrder low size (map indices_of (filter test found))
kept_in_order test low size [] h = tt
kept_in_order test low size (one ∷ rest) h =
    by (test one) (kept_in_order test one.indices.1 size rest h.3)
  where
    by : (keeps : Bool) → AreInOrder one.indices.1 size (map indices_of (filter test rest)) → AreInOrder low size (map indices_of (cond keeps (one ∷ filter test rest) (filter test rest)))
    by true others = (h.0, h.1, h.2, others)
    by false others = in_order_from low one.indices.1 size (map indices_of (filter test rest)) (omega (arith, h.0, h.1)) others
