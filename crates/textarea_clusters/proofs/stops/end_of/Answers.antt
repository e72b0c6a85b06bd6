use Rattle.std.proofs.Common.{◌≡◌, ◌∙◌, ◌≤◌, inl, inr, ap, arith, length, subst, sym, true}
use Rattle.std.specs.Str.{chars}
use Rattle.std.proofs.lemmas.Bool.{cases_lt}
use Rattle.textarea_text.specs.Place.{IsPlaceOf, Place, line_of}
use Rattle.textarea_text.specs.Text.{lines_of}
use Rattle.textarea_text.proofs.StringRows.{line_at, row_within}
use Rattle.textarea_data.specs.declared.range.AtomicCursorBias.TheVariants.{Forward}
use Rattle.textarea_ranges.specs.Lookup.{moved_out}
use Rattle.textarea_clusters.specs.Edges.{edge_ahead, is_cluster_edge}
use Rattle.textarea_clusters.specs.Stops.{is_column_stop}
use Rattle.textarea_clusters.proofs.StopLemmas.{ahead_from, ahead_row, ahead_none, ahead_stop, edge_ahead_from, edge_ahead_is_edge, edge_ahead_within, no_edge_before_ahead, no_stop_without_edge}
use Rattle.textarea_clusters.proofs.stops.end_of.Goals as goal
use Rattle.textarea_clusters.proofs.stops.end_of.Goals.{After-as_str, After-move_out}

-- the line that is read is that of the row
line_is : (c : After-as_str) → chars c.as_str.result.now ≡ line_of (lines_of c.args.lines.now) c.args.place.0
line_is c = ap chars c.as_str.ensures.value ∙ sym (line_at c.args.lines.now c.args.place.0 c.index-lines-place.result (row_within c.args.lines.now c.args.place c.requires.place) c.index-lines-place.is)

edge_is : (c : After-move_out) → c.edge_ahead-edge.result ≡ edge_ahead (line_of (lines_of c.args.lines.now) c.args.place.0) c.args.place.1
edge_is c = c.edge_ahead-edge.ensures ∙ ap (λ line. edge_ahead line c.args.place.1) (line_is (goal.at.After-move_out c).After-as_str)

-- the column that the position is moved to, from the end of the cluster
column_is : (c : After-move_out) → c.move_out.result.1 ≡ (moved_out c.args.ranges.now (c.args.place.0, c.edge_ahead-edge.result) Forward).1
column_is c = ap (λ (p : Place). p.1) c.move_out.ensures.value

edge_from : (c : After-move_out) → c.args.place.1 ≤ c.edge_ahead-edge.result
edge_from c = omega (arith, edge_is c, edge_ahead_from (line_of (lines_of c.args.lines.now) c.args.place.0) c.args.place.1)

pub edge_ahead-edge-requires : goal.edge_ahead-edge-requires
edge_ahead-edge-requires c = omega (arith, ap length (line_is (goal.at.edge_ahead-edge-requires c).After-as_str), c.requires.place.1)

pub returns-clause-within : goal.returns-clause-within
returns-clause-within c =
    let at = (goal.at.returns-clause-within c).After-move_out in
    let line = line_of (lines_of c.args.lines.now) c.args.place.0 in
    let edge_place : IsPlaceOf (lines_of c.args.lines.now) (c.args.place.0, c.edge_ahead-edge.result) = (c.requires.place.0, omega (arith, edge_is at, edge_ahead_within line c.args.place.1 c.requires.place.1)) in
    let moved = c.move_out.ensures.place (lines_of c.args.lines.now) c.requires.valid edge_place in
    let same = ap (λ (p : Place). p.0) c.move_out.ensures.value ∙ ahead_row c.args.ranges.now c.args.place.0 c.edge_ahead-edge.result in
    subst (λ row. c.move_out.result.1 ≤ length (line_of (lines_of c.args.lines.now) row)) same moved.1

pub returns-clause-after : goal.returns-clause-after
returns-clause-after c =
    let at = (goal.at.returns-clause-after c).After-move_out in
    omega (arith, column_is at, edge_from at, ahead_from c.args.ranges.now c.args.place.0 c.edge_ahead-edge.result)

pub returns-clause-stop : goal.returns-clause-stop
returns-clause-stop c same =
    let at = (goal.at.returns-clause-stop c).After-move_out in
    let ranges = c.args.ranges.now in
    let row = c.args.place.0 in
    let line = line_of (lines_of c.args.lines.now) row in
    let edge = c.edge_ahead-edge.result in
    let is : edge ≡ c.args.place.1 = omega (arith, column_is at, edge_from at, ahead_from ranges row edge, same) in
    let is_edge : is_cluster_edge line edge ≡ true = ap (is_cluster_edge line) (edge_is at) ∙ edge_ahead_is_edge line c.args.place.1 c.requires.place.1 in
    subst (λ column. is_column_stop ranges line row column ≡ true) is (ahead_stop ranges row edge line is_edge (omega (arith, column_is at, same, is)))

pub returns-clause-none : goal.returns-clause-none
returns-clause-none c column from before =
    let at = (goal.at.returns-clause-none c).After-move_out in
    let ranges = c.args.ranges.now in
    let row = c.args.place.0 in
    let line = line_of (lines_of c.args.lines.now) row in
    let edge = c.edge_ahead-edge.result in
    elim (cases_lt column edge) [
      | inl less ↦ no_stop_without_edge ranges line row column (no_edge_before_ahead line c.args.place.1 column from (omega (arith, less, edge_is at)))
      | inr past ↦ ahead_none ranges row edge line column (omega (arith, past)) (omega (arith, before, column_is at))
    ]
