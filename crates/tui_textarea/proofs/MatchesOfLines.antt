-- The matches of a pattern in some lines begin and end in these lines.
use Rattle.std.proofs.Common.{◌≡◌, ℕ, suc, ◌+◌, ◌-◌, ◌≤◌, List, [], ◌∷◌, Option, None, Some, arith, encode_utf8_all, get_or, length, map, subst}
use Rattle.std.specs.Prelude.{All}
use Rattle.std.specs.Str.{chars}
use Rattle.std.proofs.lemmas.List.Elements.{All-append, All-filter, All-map, All-nil, All-weaker}
use Rattle.textarea_data.specs.declared.range.AtomicRange.{AtomicRange}
use Rattle.textarea_search.specs.ColumnPairs.{columns_of_span, match_column_pairs}
use Rattle.textarea_search.specs.Columns.{column_of_byte}
use Rattle.textarea_search.specs.Matches.{match_spans}
use Rattle.textarea_search.specs.TextMatches.{matches_from, text_match}
use Rattle.textarea_search.specs.declared.search.text_matches.TextMatch.{TextMatch}
use Rattle.textarea_text.specs.Place.{line_of}
use Rattle.tui_textarea.specs.WholeMatches.{IsMatchOfLines, cuts_no_range, whole_matches}
use Rattle.tui_textarea.proofs.FoundPlaces.{column_within}

-- a match of the first line
of_first : (line : List ℕ) (lines : List (List ℕ)) (row before : ℕ) (span : ℕ × ℕ) → IsMatchOfLines row (line ∷ lines) (text_match row before (columns_of_span (encode_utf8_all line) span))
of_first line lines row before span = record {
  row_from = omega arith;
  row_before = omega arith;
  start = subst (λ (k : ℕ). column_of_byte (encode_utf8_all line) span.0 ≤ length (line_of (line ∷ lines) k)) here (column_within line span.0);
  stop = subst (λ (k : ℕ). column_of_byte (encode_utf8_all line) span.1 ≤ length (line_of (line ∷ lines) k)) here (column_within line span.1);
}
  where
    here : 0 ≡ row - row
    here = omega arith

-- a match of the lines after it
of_rest : (line : List ℕ) (lines : List (List ℕ)) (row : ℕ) (found : TextMatch) → IsMatchOfLines (row + 1) lines found → IsMatchOfLines row (line ∷ lines) found
of_rest line lines row found h =
    let next : suc (found.row - (row + 1)) ≡ found.row - row = omega (arith, h.row_from) in
    record {
      row_from = omega (arith, h.row_from);
      row_before = omega (arith, h.row_before);
      start = subst (λ (k : ℕ). found.columns.0 ≤ length (line_of (line ∷ lines) k)) next h.start;
      stop = subst (λ (k : ℕ). found.columns.1 ≤ length (line_of (line ∷ lines) k)) next h.stop;
    }

all_of_lines : (pattern : List ℕ) (row before : ℕ) (lines : List (List ℕ)) → All (IsMatchOfLines row lines) (matches_from (match_column_pairs pattern) row before (map encode_utf8_all lines))
all_of_lines pattern row before [] = All-nil (IsMatchOfLines row [])
all_of_lines pattern row before (line ∷ lines) =
    let bytes = encode_utf8_all line in
    let spans = match_spans pattern bytes in
    let after = before + length (chars bytes) + 1 in
    let rest = matches_from (match_column_pairs pattern) (row + 1) after (map encode_utf8_all lines) in
    All-append (IsMatchOfLines row (line ∷ lines)) (map (text_match row before) (map (columns_of_span bytes) spans)) rest
    (All-map (IsMatchOfLines row (line ∷ lines)) (text_match row before) (map (columns_of_span bytes) spans)
    (All-map (λ (columns : ℕ × ℕ). IsMatchOfLines row (line ∷ lines) (text_match row before columns)) (columns_of_span bytes) spans
    (λ k d lt. of_first line lines row before (get_or spans k d))))
    (All-weaker (IsMatchOfLines (row + 1) lines) (IsMatchOfLines row (line ∷ lines)) (of_rest line lines row) rest (all_of_lines pattern (row + 1) after lines))

pub whole_matches_of_lines : (ranges : List AtomicRange) (pattern : Option (List ℕ)) (row : ℕ) (lines : List (List ℕ)) → All (IsMatchOfLines row lines) (whole_matches ranges pattern row lines)
whole_matches_of_lines ranges None row lines = All-nil (IsMatchOfLines row lines)
whole_matches_of_lines ranges (Some pattern) row lines =
    All-filter (cuts_no_range ranges) (IsMatchOfLines row lines) (matches_from (match_column_pairs pattern) row 0 (map encode_utf8_all lines)) (all_of_lines pattern row 0 lines)
