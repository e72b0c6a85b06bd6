use Rattle.std.proofs.Common.{◌+◌, ◌-◌, ◌∙◌, ap, arith, length, min}
use Rattle.std.proofs.lemmas.List.{length-map}
use Rattle.textarea_text.specs.Prelude.{characters_of, lines_of, text_of, index_of}
use Rattle.textarea_text.proofs.PlaceLemmas.{IsAt, ahead_inside, ahead_last, row_start-next}
use Rattle.textarea_text.proofs.places.ahead.Goals as goal

-- the position in a row other than the last
inside : (c : goal.Then-left-room) → IsAt (lines_of c.args.lines.now) (c.loop-row.row, c.loop-row.column + c.loop-row.left) (min (index_of (text_of c.args.lines.now) c.args.place + c.args.count) (length (text_of c.args.lines.now)))
inside c =
    let rows = lines_of c.args.lines.now in
    let counted = length-map c.args.lines.now characters_of in
    let here = c.line_length.ensures in
    let was = c.loop-row.invariant in
    ahead_inside rows c.loop-row.row c.loop-row.column c.loop-row.left (index_of (text_of c.args.lines.now) c.args.place + c.args.count) (omega arith) (omega (arith, was.inside)) was.left

pub returns-then-left-room-clause-value : goal.returns-then-left-room-clause-value
returns-then-left-room-clause-value c = (inside c).value

pub returns-then-left-room-clause-index : goal.returns-then-left-room-clause-index
returns-then-left-room-clause-index c = (inside c).index_is

pub loop-row-preserved : goal.loop-row-preserved
loop-row-preserved c =
    let rows = lines_of c.args.lines.now in
    let counted = length-map c.args.lines.now characters_of in
    let here = c.line_length.ensures in
    let was = c.loop-row.invariant in
    record {
      inside = omega arith;
      left = omega (arith, was.inside, was.left, row_start-next rows c.loop-row.row (omega arith));
    }

-- the position in the last row
last : (c : goal.After-min) → IsAt (lines_of c.args.lines.now) (c.last_row-last.result, c.loop-row.column + c.min.result) (min (index_of (text_of c.args.lines.now) c.args.place + c.args.count) (length (text_of c.args.lines.now)))
last c =
    let counted = length-map c.args.lines.now characters_of in
    let last_is = c.last_row-last.ensures.value in
    let was = c.loop-row.invariant in
    ahead_last (lines_of c.args.lines.now) c.loop-row.row c.last_row-last.result c.loop-row.column c.loop-row.left c.min.result (index_of (text_of c.args.lines.now) c.args.place + c.args.count)
    (omega (arith, c.requires.0)) (omega (arith, c.requires.0)) was.inside (c.min.ensures ∙ ap (λ n. min c.loop-row.left (n - c.loop-row.column)) c.line_length-length.ensures) was.left

pub returns-clause-value : goal.returns-clause-value
returns-clause-value c = (last c).value

pub returns-clause-index : goal.returns-clause-index
returns-clause-index c = (last c).index_is
