use Rattle.std.proofs.Common.{rules}
use Rattle.std.proofs.lemmas.List.Sorted.{IsPartitionPoint-from_clause}
use Rattle.textarea_ranges.specs.Prelude.{has_ended}
use Rattle.textarea_ranges.proofs.Searching.{partitioned}
use Rattle.textarea_ranges.proofs.lookup.ended_count.Goals as goal

pub returns-clause-point : goal.returns-clause-point
returns-clause-point c =
    IsPartitionPoint-from_clause (has_ended c.args.place c.args.at_place) _ _ c.partition_point.ensures.partitioned
    (partitioned c.args.place c.args.at_place c.args.ranges.now c.requires) (λ a r q k. search rules)
