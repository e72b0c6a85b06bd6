use Rattle.std.proofs.Common.{◌≡◌, ◌∙◌, Bool, find, ap, arith, not}
use Rattle.std.proofs.lemmas.Grind.{common_steps}
use Rattle.textarea_ranges.specs.Prelude.{has_ended, passes_end}
use Rattle.textarea_ranges.proofs.Searching.{at_place_decided}
use Rattle.textarea_ranges.proofs.lookup.range_at_place.Goals as goal

pub returns : goal.returns
returns c =
    let place = c.args.place in
    let left = λ (b : Bool). find (λ range. not (has_ended place b range)) c.args.ranges.now in
    let found : c.first_left-first.result ≡ left (passes_end c.args.direction) = c.first_left-first.ensures ∙ ap left c.passes_end.ensures in
    grind (arith, common_steps, at_place_decided c.args.ranges.now place c.args.direction c.requires)
