use Rattle.textarea_data.specs.declared.cursor.CursorUnit.TheVariants.{Cluster}
use Rattle.std.proofs.Common.{Some}
use Rattle.tui_textarea.proofs.FirstRemovals.{first_whole}
use Rattle.tui_textarea.proofs.MatchStops.{matches_are_whole}
use Rattle.tui_textarea.proofs.WholeLines.{line_starts_whole}
use Rattle.tui_textarea.proofs.outcomes.laws.removals_take_whole_clusters.Goals as goal

pub returns : goal.returns
returns c = record {
  first = first_whole;
  matches = matches_are_whole;
  starts = λ state. line_starts_whole state.document (Some Cluster) tt;
}
