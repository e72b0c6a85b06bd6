use Rattle.std.proofs.Common.{◌∙◌, ap, arith, length}
use Rattle.std.proofs.lemmas.List.{length-map}
use Rattle.textarea_text.specs.Prelude.{characters_of, lines_of, text_of, index_of, line_of}
use Rattle.textarea_text.proofs.PlaceLemmas.{IsAt, is_at_end}
use Rattle.textarea_text.proofs.places.text_end.Goals as goal

last : (c : goal.After-line_end) → IsAt (lines_of c.args.lines.now) (c.last_row.result, length (line_of (lines_of c.args.lines.now) c.last_row.result)) (length (text_of c.args.lines.now))
last c =
    let row = c.last_row.result in
    let rows = lines_of c.args.lines.now in
    is_at_end rows row (length (line_of rows row)) (omega (arith, c.last_row.ensures.value, length-map c.args.lines.now characters_of)) (omega arith)

pub returns-clause-value : goal.returns-clause-value
returns-clause-value c = c.line_end.ensures.value ∙ (last c).value

pub returns-clause-index : goal.returns-clause-index
returns-clause-index c = ap (index_of (text_of c.args.lines.now)) c.line_end.ensures.value ∙ (last c).index_is
