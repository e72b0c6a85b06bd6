use Rattle.std.proofs.Common.{◌≡◌, ◌∙◌, ap, subst, sym, All, Option}
use Rattle.textarea_ranges.specs.Prelude.{Place, IsPlaceOf, AtomicRange, IsInside, range_edge_or, moved_out}
use Rattle.textarea_ranges.proofs.LookupLemmas.{IsPlaceOf-moved_out, outside-moved_out}
use Rattle.textarea_ranges.proofs.lookup.move_out.Goals as goal

pub returns-in-Some-clause-outside : goal.returns-in-Some-clause-outside
returns-in-Some-clause-outside c =
    let is : c.range_edge.result ≡ moved_out c.args.ranges.now c.args.place c.args.bias = c.range_edge.ensures ∙ ap (λ (o : Option AtomicRange). range_edge_or o c.args.place c.args.bias) c.in-Some.ensures in
    λ rows valid. subst (λ (p : Place). All (λ range. ¬ IsInside p range) c.args.ranges.now) (sym is) (outside-moved_out rows c.args.ranges.now c.args.place c.args.bias valid)

pub returns-in-Some-clause-place : goal.returns-in-Some-clause-place
returns-in-Some-clause-place c =
    let is : c.range_edge.result ≡ moved_out c.args.ranges.now c.args.place c.args.bias = c.range_edge.ensures ∙ ap (λ (o : Option AtomicRange). range_edge_or o c.args.place c.args.bias) c.in-Some.ensures in
    λ rows valid place. subst (IsPlaceOf rows) (sym is) (IsPlaceOf-moved_out rows c.args.ranges.now c.args.place c.args.bias valid place)

pub returns-in-None-clause-outside : goal.returns-in-None-clause-outside
returns-in-None-clause-outside c =
    let is : c.args.place ≡ moved_out c.args.ranges.now c.args.place c.args.bias = ap (λ (o : Option AtomicRange). range_edge_or o c.args.place c.args.bias) c.in-None.ensures in
    λ rows valid. subst (λ (p : Place). All (λ range. ¬ IsInside p range) c.args.ranges.now) (sym is) (outside-moved_out rows c.args.ranges.now c.args.place c.args.bias valid)
