use Rattle.std.proofs.Common.{◌≡◌, ◌∙◌, ◌≤◌, inl, inr, ap, arith, subst, true}
use Rattle.std.specs.Str.{chars}
use Rattle.std.proofs.lemmas.Bool.{cases_lt}
use Rattle.textarea_text.specs.Place.{Place}
use Rattle.textarea_data.specs.declared.range.AtomicCursorBias.TheVariants.{Backward}
use Rattle.textarea_ranges.specs.Lookup.{moved_out}
use Rattle.textarea_clusters.specs.Edges.{is_cluster_edge}
use Rattle.textarea_clusters.specs.Stops.{is_column_stop}
use Rattle.textarea_clusters.proofs.StopLemmas.{back_none, back_stop, back_within, edge_back_is_edge, edge_back_within, no_edge_after_back, no_stop_without_edge}
use Rattle.textarea_clusters.proofs.stops.start_of.Goals as goal
use Rattle.textarea_clusters.proofs.stops.start_of.Goals.{After-move_out}

-- the column that the position is moved to, from the start of the cluster
column_is : (c : After-move_out) → c.move_out.result.1 ≡ (moved_out c.args.ranges.now (c.args.place.0, c.edge_back-edge.result) Backward).1
column_is c = ap (λ (p : Place). p.1) c.move_out.ensures.value

edge_within : (c : After-move_out) → c.edge_back-edge.result ≤ c.args.place.1
edge_within c = omega (arith, c.edge_back-edge.ensures, edge_back_within (chars c.args.line.now) c.args.place.1)

pub returns-clause-within : goal.returns-clause-within
returns-clause-within c =
    let at = (goal.at.returns-clause-within c).After-move_out in
    omega (arith, column_is at, edge_within at, back_within c.args.ranges.now c.args.place.0 c.edge_back-edge.result)

pub returns-clause-stop : goal.returns-clause-stop
returns-clause-stop c same =
    let at = (goal.at.returns-clause-stop c).After-move_out in
    let ranges = c.args.ranges.now in
    let row = c.args.place.0 in
    let line = chars c.args.line.now in
    let edge = c.edge_back-edge.result in
    let is : edge ≡ c.args.place.1 = omega (arith, column_is at, edge_within at, back_within ranges row edge, same) in
    let is_edge : is_cluster_edge line edge ≡ true = ap (is_cluster_edge line) c.edge_back-edge.ensures ∙ edge_back_is_edge line c.args.place.1 in
    subst (λ column. is_column_stop ranges line row column ≡ true) is (back_stop ranges row edge line is_edge (omega (arith, column_is at, same, is)))

pub returns-clause-none : goal.returns-clause-none
returns-clause-none c column after within =
    let at = (goal.at.returns-clause-none c).After-move_out in
    let ranges = c.args.ranges.now in
    let row = c.args.place.0 in
    let line = chars c.args.line.now in
    let edge = c.edge_back-edge.result in
    elim (cases_lt edge column) [
      | inl past ↦ no_stop_without_edge ranges line row column (no_edge_after_back line c.args.place.1 column (omega (arith, past, c.edge_back-edge.ensures)) within)
      | inr upto ↦ back_none ranges row edge line column (omega (arith, after, column_is at)) (omega (arith, upto))
    ]
