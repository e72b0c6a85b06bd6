-- Where the matches start that count: some of all starts, in their order.
use Rattle.std.proofs.Common.{◌≡◌, ◌∙◌, ℕ, ◌+◌, Bool, true, false, cond, List, [], ◌∷◌, ◌++◌, length, map, Option, None, Some, ap, ap₂, refl, subst, sym}
use Rattle.std.specs.Prelude.{All, filter}
use Rattle.std.specs.Str.{chars, encode_utf8_all}
use Rattle.std.proofs.lemmas.List.{map-append}
use Rattle.std.proofs.lemmas.List.Elements.{All-cons, All-head, All-tail}
use Rattle.textarea_data.specs.declared.cursor.CursorUnit.{CursorUnit}
use Rattle.textarea_data.specs.declared.cursor.CursorUnit.TheVariants as unit
use Rattle.textarea_search.specs.ColumnPairs.{columns_of_span, match_column_pairs}
use Rattle.textarea_search.specs.Columns.{column_of_byte}
use Rattle.textarea_search.specs.Matches.{match_columns, match_spans}
use Rattle.textarea_search.specs.Starts.{is_later, starts_from}
use Rattle.textarea_search.specs.TextMatches.{matches_from, text_match}
use Rattle.textarea_search.specs.declared.search.text_matches.TextMatch.{TextMatch}
use Rattle.textarea_text.specs.Place.{Place}
use Rattle.textarea_text.specs.Text.{Symbol, lines}
use Rattle.tui_textarea.specs.Matches.{AreInTextOrder}
use Rattle.tui_textarea.specs.Search.{starts_in, unit_starts}
use Rattle.tui_textarea.specs.WholeMatches.{cluster_starts, cuts_no_cluster, cuts_no_range, start_of_match, whole_matches}

-- ---- the starts of matches

row_starts : (row before : ℕ) (line : List ℕ) (spans : List (ℕ × ℕ))
    → map start_of_match (map (text_match row before) (map (columns_of_span line) spans)) ≡ map (λ column. (row, column)) (map (λ s. column_of_byte line s.0) spans)
row_starts row before line [] = refl
row_starts row before line (s ∷ spans) = ap (λ (starts : List Place). (row, column_of_byte line s.0) ∷ starts) (row_starts row before line spans)

starts_are : (pattern : List ℕ) (row before : ℕ) (rows : List (List ℕ)) → map start_of_match (matches_from (match_column_pairs pattern) row before rows) ≡ starts_from (match_columns pattern) row rows
starts_are pattern row before [] = refl
starts_are pattern row before (line ∷ rows) =
    map-append start_of_match (map (text_match row before) (match_column_pairs pattern line)) (matches_from (match_column_pairs pattern) (row + 1) (before + length (chars line) + 1) rows)
    ∙ ap₂ (λ (one other : List Place). one ++ other) (row_starts row before line (match_spans pattern line)) (starts_are pattern (row + 1) (before + length (chars line) + 1) rows)

-- ---- some of them

module _ (test : TextMatch → Bool) where
  -- what is known of all is known of some
  kept_all : (P : Place → Type 0) (found : List TextMatch) → All P (map start_of_match found) → All P (map start_of_match (filter test found))
  kept_all P [] all = all
  kept_all P (one ∷ rest) all =
      let start = start_of_match one in
      by (test one) (All-head P start (map start_of_match rest) all) (kept_all P rest (All-tail P start (map start_of_match rest) all))
    where
      by : (keeps : Bool) → P (start_of_match one) → All P (map start_of_match (filter test rest)) → All P (map start_of_match (cond keeps (one ∷ filter test rest) (filter test rest)))
      by true here others = All-cons P (start_of_match one) (map start_of_match (filter test rest)) here others
      by false here others = others

  -- their order is the same
  kept_order : (found : List TextMatch) → AreInTextOrder (map start_of_match found) → AreInTextOrder (map start_of_match (filter test found))
  kept_order [] order = order
  kept_order (one ∷ rest) order =
      by (test one) (kept_all (λ other. is_later (start_of_match one) false other ≡ true) rest order.0) (kept_order rest order.1)
    where
      by : (keeps : Bool) → All (λ other. is_later (start_of_match one) false other ≡ true) (map start_of_match (filter test rest)) → AreInTextOrder (map start_of_match (filter test rest))
          → AreInTextOrder (map start_of_match (cond keeps (one ∷ filter test rest) (filter test rest)))
      by true later others = (later, others)
      by false later others = others

-- ---- those that count

cluster_all : (P : Place → Type 0) (pattern : Option (List ℕ)) (text : List Symbol) → All P (starts_in pattern text) → All P (cluster_starts pattern (lines text))
cluster_all P None text all = all
cluster_all P (Some pattern) text all =
    kept_all (cuts_no_cluster 0 (lines text)) P (whole_matches [] (Some pattern) 0 (lines text))
    (kept_all (cuts_no_range []) P (matches_from (match_column_pairs pattern) 0 0 (map encode_utf8_all (lines text)))
    (subst (All P) (sym (starts_are pattern 0 0 (map encode_utf8_all (lines text)))) all))

cluster_order : (pattern : Option (List ℕ)) (text : List Symbol) → AreInTextOrder (starts_in pattern text) → AreInTextOrder (cluster_starts pattern (lines text))
cluster_order None text order = order
cluster_order (Some pattern) text order =
    kept_order (cuts_no_cluster 0 (lines text)) (whole_matches [] (Some pattern) 0 (lines text))
    (kept_order (cuts_no_range []) (matches_from (match_column_pairs pattern) 0 0 (map encode_utf8_all (lines text)))
    (subst AreInTextOrder (sym (starts_are pattern 0 0 (map encode_utf8_all (lines text)))) order))

pub unit_all : (P : Place → Type 0) (by : CursorUnit) (pattern : Option (List ℕ)) (text : List Symbol) → All P (starts_in pattern text) → All P (unit_starts by pattern text)
unit_all P unit.Character pattern text all = all
unit_all P unit.Cluster pattern text all = cluster_all P pattern text all

pub unit_order : (by : CursorUnit) (pattern : Option (List ℕ)) (text : List Symbol) → AreInTextOrder (starts_in pattern text) → AreInTextOrder (unit_starts by pattern text)
unit_order unit.Character pattern text order = order
unit_order unit.Cluster pattern text order = cluster_order pattern text order
