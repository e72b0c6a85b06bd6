use Rattle.std.proofs.Common.{◌≡◌, ◌∙◌, ap, sym}
use Rattle.std.specs.Str.{chars}
use Rattle.textarea_text.specs.Place.{line_of}
use Rattle.textarea_text.specs.Text.{lines_of}
use Rattle.textarea_text.proofs.StringRows.{line_at, row_within}
use Rattle.textarea_clusters.specs.Stops.{column_back}
use Rattle.textarea_clusters.proofs.stops.stop_back.Goals as goal

pub returns-clause-value : goal.returns-clause-value
returns-clause-value c =
    let row = c.args.place.0 in
    let line = chars c.as_str-line.result.now in
    let line_is : line ≡ line_of (lines_of c.args.lines.now) row =
    ap chars c.as_str-line.ensures.value ∙ sym (line_at c.args.lines.now row c.index-lines-place.result (row_within c.args.lines.now c.args.place c.requires.place) c.index-lines-place.is) in
    ap (λ n. (row, n)) (c.column_back.ensures.value ∙ ap (λ l. column_back c.args.ranges.now l row c.args.place.1) line_is)
