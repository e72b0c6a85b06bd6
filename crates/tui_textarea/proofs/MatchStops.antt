-- The matches that can be replaced while the cursor goes by clusters begin and end at stops.
use Rattle.std.proofs.Common.{◌≡◌, ◌∙◌, ◌<◌, ◌+◌, ◌-◌, ◌&&◌, ℕ, Bool, true, not, List, [], ◌∷◌, length, map, get_or, Option, None, Some, IfSome, encode_utf8_all, is_some, ap, ap₂, arith, refl, subst, sym}
use Rattle.std.specs.Prelude.{All, filter}
use Rattle.std.specs.Str.{chars}
use Rattle.std.proofs.lemmas.Bool.{and_parts}
use Rattle.std.proofs.lemmas.List.Elements.{All-append, All-filter, All-map, All-nil, filter_passes}
use Rattle.textarea_clusters.specs.Edges.{is_cluster_edge}
use Rattle.textarea_data.specs.declared.cursor.CursorUnit.TheVariants as unit
use Rattle.textarea_data.specs.declared.cursor.CursorUnit.{CursorUnit}
use Rattle.textarea_ranges.specs.Lookup.{range_around}
use Rattle.textarea_search.specs.ColumnPairs.{columns_of_span, match_column_pairs}
use Rattle.textarea_search.specs.Matches.{match_spans}
use Rattle.textarea_search.specs.TextMatches.{matches_from, text_match}
use Rattle.textarea_search.specs.declared.search.text_matches.TextMatch.{TextMatch}
use Rattle.textarea_text.specs.Place.{line_of, place_of}
use Rattle.textarea_text.specs.Text.{Symbol, lines}
use Rattle.textarea_document.specs.DocumentState.{DocumentState}
use Rattle.textarea_document.specs.Sound.{IsSound}
use Rattle.tui_textarea.specs.Replacing.{match_at_cursor, match_splices, match_splices_by, matches_splices, replaceable}
use Rattle.tui_textarea.specs.State.{State}
use Rattle.tui_textarea.specs.Units.{AreWholeStretches, FirstTakesWhole, GoesByClusters, IsAtStop}
use Rattle.tui_textarea.specs.WholeMatches.{IsMatchOfLines, begins_at, cuts_no_cluster, cuts_no_range, end_of_match, indices_of, match_at, replaceable_in, start_of_match, unit_matches, whole_matches}
use Rattle.tui_textarea.proofs.FoundPlaces.{column_within, encoded_as_many, found_has}
use Rattle.tui_textarea.proofs.MatchesOfLines.{whole_matches_of_lines}
use Rattle.tui_textarea.proofs.MatchSpans.{kept_in_order, matches_in_order}
use Rattle.tui_textarea.proofs.RowPlaces.{AreRowsFrom, all_rows, place_at_index, rows_after}
use Rattle.tui_textarea.proofs.WholeStretches.{AreInOrder, IsEdge, all_whole, range_whole}

-- ---- a match that cuts no cluster and no range

-- in lines of a document's text, the first of which has this row
ends_at_stops : (document : DocumentState) (row : ℕ) (rows : List (List ℕ)) (found : TextMatch) → line_of rows (found.row - row) ≡ line_of (lines document.text) found.row
    → cuts_no_cluster row rows found ≡ true → cuts_no_range document.ranges found ≡ true → IsAtStop document (start_of_match found) × IsAtStop document (end_of_match found)
ends_at_stops document row rows found same cluster range =
    let line = line_of rows (found.row - row) in
    let edges = and_parts (is_cluster_edge line found.columns.0) (is_cluster_edge line found.columns.1) cluster in
    let outs = and_parts (not (is_some (range_around document.ranges (start_of_match found)))) (not (is_some (range_around document.ranges (end_of_match found)))) range in
    (at found.columns.0 edges.0 outs.0, at found.columns.1 edges.1 outs.1)
  where
    at : (column : ℕ) → is_cluster_edge (line_of rows (found.row - row)) column ≡ true → not (is_some (range_around document.ranges (found.row, column))) ≡ true → IsAtStop document (found.row, column)
    at column edge out = ap₂ (λ (a b : Bool). a && b) (ap (λ l. is_cluster_edge l column) (sym same) ∙ edge) out

-- those of lines whose first has this row
passing : (document : DocumentState) (pattern : Option (List ℕ)) (row : ℕ) (rows : List (List ℕ))
    → All (λ found. (cuts_no_cluster row rows found ≡ true) × (cuts_no_range document.ranges found ≡ true)) (unit_matches unit.Cluster document.ranges pattern row rows)
passing document None row rows = All-nil (λ found. (cuts_no_cluster row rows found ≡ true) × (cuts_no_range document.ranges found ≡ true))
passing document (Some pattern) row rows =
    let all = matches_from (match_column_pairs pattern) row 0 (map encode_utf8_all rows) in
    let whole = filter (cuts_no_range document.ranges) all in
    let cluster = filter_passes (cuts_no_cluster row rows) whole in
    let range = All-filter (cuts_no_cluster row rows) (λ found. cuts_no_range document.ranges found ≡ true) whole (filter_passes (cuts_no_range document.ranges) all) in
    λ k d within. (cluster k d within, range k d within)

-- ---- the match at the cursor

-- it begins and ends at a position that is a stop
abbrev IsEdgeMatch : DocumentState → TextMatch → Type 0
IsEdgeMatch document found = IsEdge document (start_of_match found) × IsEdge document (end_of_match found)

edge_in_line : (document : DocumentState) (row : ℕ) (found : TextMatch) → row < length (lines document.text) → IsMatchOfLines row (line_of (lines document.text) row ∷ []) found
    → (cuts_no_cluster row (line_of (lines document.text) row ∷ []) found ≡ true) × (cuts_no_range document.ranges found ≡ true) → IsEdgeMatch document found
edge_in_line document row found within of passes =
    let rows = lines document.text in
    let line = line_of rows row in
    let none : found.row - row ≡ 0 = omega (arith, of.row_before) in
    let same : found.row ≡ row = omega (arith, of.row_from, of.row_before) in
    let here : line_of (line ∷ []) (found.row - row) ≡ line_of rows found.row = ap (line_of (line ∷ [])) none ∙ ap (line_of rows) (sym same) in
    let ends = ends_at_stops document row (line ∷ []) found here passes.0 passes.1 in
    let size = ap length here in
    (((omega (arith, within, same), omega (arith, of.start, size)), ends.0), ((omega (arith, within, same), omega (arith, of.stop, size)), ends.1))

edge_at_cursor : (state : State) → IsSound state.document → GoesByClusters state → IfSome (match_at_cursor state) (IsEdgeMatch state.document)
edge_at_cursor state h goes =
    subst (λ (found : CursorUnit). IfSome (match_at found document.ranges state.pattern (lines document.text) document.cursor) (IsEdgeMatch document)) (sym goes)
    (found_has (IsEdgeMatch document) (begins_at document.cursor.1) found all)
  where
    document : DocumentState
    document = state.document

    row : ℕ
    row = document.cursor.0

    rows : List (List ℕ)
    rows = line_of (lines document.text) row ∷ []

    whole : List TextMatch
    whole = whole_matches document.ranges state.pattern row rows

    found : List TextMatch
    found = unit_matches unit.Cluster document.ranges state.pattern row rows

    of : All (IsMatchOfLines row rows) found
    of = All-filter (cuts_no_cluster row rows) (IsMatchOfLines row rows) whole (whole_matches_of_lines document.ranges state.pattern row rows)

    all : All (IsEdgeMatch document) found
    all k d within = edge_in_line document row (get_or found k d) h.cursor.0 (of k d within) (passing document state.pattern row rows k d within)

pub match_whole : (state : State) (symbols : List Symbol) → IsSound state.document → GoesByClusters state → FirstTakesWhole state.document (match_splices state symbols)
match_whole state symbols h goes = by (match_at_cursor state) (edge_at_cursor state h goes)
  where
    by : (found : Option TextMatch) → IfSome found (IsEdgeMatch state.document) → FirstTakesWhole state.document (match_splices_by found state symbols)
    by None edges = tt
    by (Some found) edges = range_whole state.document (start_of_match found) (end_of_match found) symbols state.time edges.0 edges.1

-- ---- all matches

-- the numbers of symbols before the match and before its end are those before these positions
record IsMatchAt (text : List Symbol) (found : TextMatch) : Type 0 where
  start : place_of text found.indices.0 ≡ start_of_match found
  stop : place_of text found.indices.1 ≡ end_of_match found

match_at_columns : (text : List Symbol) (row before : ℕ) (line : List ℕ) (rest : List (List ℕ)) (span : ℕ × ℕ) → AreRowsFrom text row before (line ∷ rest)
    → IsMatchAt text (text_match row before (columns_of_span (encode_utf8_all line) span))
match_at_columns text row before line rest span from =
    let columns = columns_of_span (encode_utf8_all line) span in
    record {
      start = place_at_index text row before line rest from columns.0 (before + columns.0) (column_within line span.0) refl;
      stop = place_at_index text row before line rest from columns.1 (before + columns.1) (column_within line span.1) refl;
    }

matches_at : (pattern : List ℕ) (text : List Symbol) (row before : ℕ) (rows : List (List ℕ)) → AreRowsFrom text row before rows
    → All (IsMatchAt text) (matches_from (match_column_pairs pattern) row before (map encode_utf8_all rows))
matches_at pattern text row before [] from = All-nil (IsMatchAt text)
matches_at pattern text row before (line ∷ rest) from =
    let bytes = encode_utf8_all line in
    let spans = match_spans pattern bytes in
    let after = before + length (chars bytes) + 1 in
    let same : before + length line + 1 ≡ after = omega (arith, encoded_as_many line) in
    let later = matches_from (match_column_pairs pattern) (row + 1) after (map encode_utf8_all rest) in
    All-append (IsMatchAt text) (map (text_match row before) (map (columns_of_span bytes) spans)) later
    (All-map (IsMatchAt text) (text_match row before) (map (columns_of_span bytes) spans)
    (All-map (λ (columns : ℕ × ℕ). IsMatchAt text (text_match row before columns)) (columns_of_span bytes) spans
    (λ k d within. match_at_columns text row before line rest (get_or spans k d) from)))
    (subst (λ n. All (IsMatchAt text) (matches_from (match_column_pairs pattern) (row + 1) n (map encode_utf8_all rest))) same
    (matches_at pattern text (row + 1) (before + length line + 1) rest (rows_after text row before line rest from)))

-- ---- the stretches that they replace

abbrev Stretches : DocumentState → List (ℕ × ℕ) → Type 0
Stretches document stretches = AreWholeStretches document stretches × AreInOrder 0 (length document.text) stretches

stretches_by : (document : DocumentState) (pattern : Option (List ℕ)) → Stretches document (replaceable_in unit.Cluster document.ranges pattern (lines document.text))
stretches_by document None = (All-nil (λ stretch. IsAtStop document (place_of document.text stretch.0) × IsAtStop document (place_of document.text stretch.1)), tt)
stretches_by document (Some pattern) =
    let text = document.text in
    let rows = lines text in
    let all = matches_from (match_column_pairs pattern) 0 0 (map encode_utf8_all rows) in
    let whole = filter (cuts_no_range document.ranges) all in
    let found = filter (cuts_no_cluster 0 rows) whole in
    let places = All-filter (cuts_no_cluster 0 rows) (IsMatchAt text) whole (All-filter (cuts_no_range document.ranges) (IsMatchAt text) all (matches_at pattern text 0 0 rows (all_rows text))) in
    let passes = passing document (Some pattern) 0 rows in (
      All-map (λ stretch. IsAtStop document (place_of text stretch.0) × IsAtStop document (place_of text stretch.1)) indices_of found
          (λ k d within. stops (get_or found k d) (places k d within) (passes k d within)),
      kept_in_order (cuts_no_cluster 0 rows) 0 (length text) whole (kept_in_order (cuts_no_range document.ranges) 0 (length text) all (matches_in_order pattern text 0 0 rows (all_rows text))),
    )
  where
    stops : (found : TextMatch) → IsMatchAt document.text found → (cuts_no_cluster 0 (lines document.text) found ≡ true) × (cuts_no_range document.ranges found ≡ true)
        → IsAtStop document (place_of document.text found.indices.0) × IsAtStop document (place_of document.text found.indices.1)
    stops found at passes =
        let none : found.row - 0 ≡ found.row = omega arith in
        let ends = ends_at_stops document 0 (lines document.text) found (ap (line_of (lines document.text)) none) passes.0 passes.1 in
        (subst (IsAtStop document) (sym at.start) ends.0, subst (IsAtStop document) (sym at.stop) ends.1)

stretches_are : (state : State) → GoesByClusters state → Stretches state.document (replaceable state)
stretches_are state goes =
    let document = state.document in
    subst (λ (found : CursorUnit). Stretches document (replaceable_in found document.ranges state.pattern (lines document.text))) (sym goes) (stretches_by document state.pattern)

pub matches_are_whole : (state : State) → GoesByClusters state → AreWholeStretches state.document (replaceable state)
matches_are_whole state goes = (stretches_are state goes).0

pub matches_whole : (state : State) (symbols : List Symbol) → IsSound state.document → GoesByClusters state → FirstTakesWhole state.document (matches_splices state symbols)
matches_whole state symbols h goes =
    let are = stretches_are state goes in
    all_whole state.document (replaceable state) symbols state.time h are.1 are.0
