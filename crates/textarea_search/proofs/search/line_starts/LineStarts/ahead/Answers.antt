use Rattle.std.proofs.Common.{◌≡◌, ◌∙◌, ◌≤◌, List, ℕ, ap, length, subst, sym}
use Rattle.std.specs.Prelude.{All}
use Rattle.std.specs.List.{find}
use Rattle.std.specs.Str.{chars}
use Rattle.textarea_search.specs.Matches.{match_columns}
use Rattle.textarea_search.specs.Starts.{along, is_ahead_in_line}
use Rattle.textarea_search.proofs.AscendingLemmas.{found_within}
use Rattle.textarea_search.proofs.search.line_starts.LineStarts.ahead.Goals as goal

pub returns : goal.returns
returns c =
    let key : c.args.self.now.key ≡ (c.args.pattern.now, c.args.line.now) = c.is.ensures.0 c.if-not-is.false in
    let value = c.as_slice.ensures.value in
    let columns : c.as_slice.result.now ≡ match_columns c.args.pattern.now c.args.line.now =
    value ∙ c.args.self.now.found ∙ ap (λ (k : List ℕ × List ℕ). match_columns k.0 k.1) key in
    record {
      found = c.nearest_start.ensures ∙ ap (λ (cs : List ℕ). find (is_ahead_in_line c.args.direction c.args.column c.args.at_column) (along c.args.direction cs)) columns;
      within = found_within (length (chars c.args.line.now)) c.args.direction c.args.column c.args.at_column c.as_slice.result.now c.nearest_start.result
          (subst (λ (k : List ℕ × List ℕ). All (λ column. column ≤ length (chars k.1)) c.as_slice.result.now) key
          (subst (λ (cs : List ℕ). All (λ column. column ≤ length (chars c.args.self.now.key.1)) cs) (sym value) c.args.self.now.within))
          c.nearest_start.ensures;
    }
