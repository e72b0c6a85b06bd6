use Rattle.std.proofs.Common.{◌≡◌, ◌++◌, map}
use Rattle.textarea_wrap.specs.Prelude.{flat_map, units_of_segment, line_units}
use Rattle.unicode_segmentation.specs.Iter.{graphemes_left, word_bounds_left}
use Rattle.textarea_wrap.proofs.wrap.units.collect_units.Given as goal

abbrev pub invariant-loop-segment : goal.invariant-loop-segment
invariant-loop-segment l = map (λ unit. unit.now) l.units.items ++ flat_map units_of_segment (word_bounds_left l.segment-iterator) ≡ line_units l.line

abbrev pub invariant-loop-cluster : goal.invariant-loop-cluster
invariant-loop-cluster l =
    map (λ unit. unit.now) l.units.items ++ (graphemes_left l.cluster-iterator ++ flat_map units_of_segment (word_bounds_left l.segment-iterator)) ≡ line_units l.line
