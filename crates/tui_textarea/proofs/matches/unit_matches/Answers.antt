use Rattle.std.proofs.Common.{◌∙◌, subst, sym}
use Rattle.std.specs.Prelude.{All}
use Rattle.textarea_text.specs.Text.{lines_of}
use Rattle.tui_textarea.specs.WholeMatches.{IsMatchOfLines}
use Rattle.tui_textarea.proofs.MatchesOfLines.{whole_matches_of_lines}
use Rattle.tui_textarea.proofs.matches.unit_matches.Goals as goal

pub between_clusters-requires : goal.between_clusters-requires
between_clusters-requires c =
    let rows = lines_of c.args.lines.now in
    record {
      within = subst (All (IsMatchOfLines c.args.first_row rows)) (sym (c.as_slice.ensures.value ∙ c.in_ok-matches.ensures.found))
          (whole_matches_of_lines c.args.ranges.now c.args.search.now c.args.first_row rows);
    }
