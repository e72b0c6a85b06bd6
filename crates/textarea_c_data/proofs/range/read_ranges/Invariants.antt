use Rattle.std.proofs.Common.{◌≡◌, map, take}
use Rattle.textarea_c_data.specs.Ranges.{range_of}
use Rattle.textarea_c_data.proofs.range.read_ranges.Given as goal

abbrev pub invariant-loop-range : goal.invariant-loop-range
invariant-loop-range l = l.read.items ≡ map range_of (take l.range-index l.ranges)
