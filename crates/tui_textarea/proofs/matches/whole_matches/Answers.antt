use Rattle.std.proofs.Common.{◌≡◌, ◌∙◌, ℕ, List, Option, ap, encode_utf8_all, map, rules, sym}
use Rattle.std.specs.Prelude.{filter}
use Rattle.std.proofs.lemmas.Fn.{filter_same}
use Rattle.textarea_text.specs.Text.{lines_of}
use Rattle.textarea_search.specs.ColumnPairs.{match_column_pairs}
use Rattle.textarea_search.specs.TextMatches.{matches_from}
use Rattle.tui_textarea.specs.WholeMatches.{cuts_no_range, whole_matches}
use Rattle.tui_textarea.proofs.Searches.{bytes_of}
use Rattle.tui_textarea.proofs.matches.whole_matches.Goals as goal

pub returns-clause-found : goal.returns-clause-found
returns-clause-found c =
    let ranges = c.args.ranges.now in
    let row = c.args.first_row in
    let rows = lines_of c.args.lines.now in
    let pattern : List ℕ = c.in-Some.matcher in
    let listed = c.in_ok-matches.matches.items in
    let kept : c.retain.new.self.items ≡ filter (cuts_no_range ranges) listed = filter_same _ _ _ (λ x b f' k. search rules) _ _ c.retain.ensures.filtered in
    let are : listed ≡ matches_from (match_column_pairs pattern) row 0 (map encode_utf8_all rows) =
    c.in_ok-matches.ensures.found ∙ ap (matches_from (match_column_pairs pattern) row 0) (bytes_of c.args.lines.now) in
    kept
    ∙ ap (filter (cuts_no_range ranges)) are
    ∙ sym (ap (λ (p : Option (List ℕ)). whole_matches ranges p row rows) (sym c.in_ok-matcher.ensures.pattern ∙ c.in-Some.is))
