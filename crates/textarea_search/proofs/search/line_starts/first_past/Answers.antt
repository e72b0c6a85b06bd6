use Rattle.std.proofs.Common.{◌≡◌, ◌∙◌, arith, not, rules, slice_get, sym}
use Rattle.std.specs.List.{find}
use Rattle.std.proofs.lemmas.List.Sorted.{IsPartitionPoint-from_clause}
use Rattle.std.proofs.lemmas.Option.{slice_get-get_or, slice_get_past}
use Rattle.textarea_search.specs.Starts.{is_past}
use Rattle.textarea_search.proofs.AscendingLemmas.{found_at_point, partitioned_by_past}
use Rattle.textarea_search.proofs.search.line_starts.first_past.Goals as goal
use Rattle.textarea_search.proofs.search.line_starts.first_past.Goals.{After-partition_point-index}

found : (c : After-partition_point-index) → find (is_past c.args.mark c.args.at_mark) c.args.columns.now ≡ slice_get c.args.columns.now c.partition_point-index.result
found c =
    found_at_point (is_past c.args.mark c.args.at_mark) c.args.columns.now c.partition_point-index.result c.partition_point-index.ensures.bound
    (IsPartitionPoint-from_clause (λ column. not (is_past c.args.mark c.args.at_mark column)) _ _ c.partition_point-index.ensures.partitioned
    (partitioned_by_past c.args.mark c.args.at_mark c.args.columns.now c.requires) (λ a r q k. search rules))

pub returns-then-index-columns : goal.returns-then-index-columns
returns-then-index-columns c =
    sym (found (goal.at.returns-then-index-columns c).After-partition_point-index ∙ slice_get-get_or c.args.columns.now c.partition_point-index.result 0 (omega arith))

pub returns-else-index-columns : goal.returns-else-index-columns
returns-else-index-columns c =
    sym (found (goal.at.returns-else-index-columns c).After-partition_point-index ∙ slice_get_past c.args.columns.now c.partition_point-index.result (omega arith))
