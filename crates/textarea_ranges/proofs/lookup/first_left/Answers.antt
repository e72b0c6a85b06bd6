use Rattle.std.proofs.Common.{◌≡◌, ◌∙◌, arith, sym}
use Rattle.std.proofs.lemmas.Bool.Decides.{nat_tests}
use Rattle.std.proofs.lemmas.Option.{slice_get-get_or, slice_get_past}
use Rattle.textarea_ranges.specs.Prelude.{has_ended, slice_get}
use Rattle.textarea_ranges.proofs.Searching.{found_at_point}
use Rattle.textarea_ranges.proofs.lookup.first_left.Goals as goal

pub returns : goal.returns
returns c =
    let at = found_at_point (has_ended c.args.place c.args.at_place) c.args.ranges.now c.ended_count.result c.ended_count.ensures.within c.ended_count.ensures.point in
    let got : c.copied.result ≡ slice_get c.args.ranges.now c.ended_count.result = grind (arith, nat_tests, c.get.ensures.lookup, slice_get-get_or, slice_get_past) in
    got ∙ sym at
