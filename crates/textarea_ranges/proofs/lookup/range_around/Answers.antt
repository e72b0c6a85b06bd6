use Rattle.std.proofs.Common.{arith}
use Rattle.std.proofs.lemmas.Grind.{common_steps}
use Rattle.textarea_ranges.proofs.Searching.{around_decided}
use Rattle.textarea_ranges.proofs.lookup.range_around.Goals as goal

pub returns : goal.returns
returns c = grind (arith, common_steps, around_decided c.args.ranges.now c.args.place c.requires)
