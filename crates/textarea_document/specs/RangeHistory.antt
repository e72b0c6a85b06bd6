-- The remembered ranges as their struct stores them.
use Rattle.std.specs.Prelude.{◌<◌, List, Option, Vec, map, option_map}
use Rattle.std.specs.declared.alloc.Global.{Global}
use Rattle.std.specs.VecDeque.{deque_capacity, deque_len}
use Rattle.textarea_data.specs.declared.range.AtomicRange.{AtomicRange}
use Rattle.textarea_document.specs.PastRanges.{PastRanges}
use Rattle.textarea_document.specs.declared.document.range_history.RangeHistory.{RangeHistory}

-- the ranges of each list
abbrev pub past_of : RangeHistory → PastRanges
past_of history = record { on = history.on; before = map (λ ranges. ranges.items) history.before.items }

-- what was prepared for it, or is returned from it
abbrev pub ranges_of : Option (Vec AtomicRange Global) → Option (List AtomicRange)
ranges_of kept = option_map (λ ranges. ranges.items) kept

-- there is room for one more list
abbrev pub HasRoomForRanges : RangeHistory → Type 0
HasRoomForRanges history = deque_len history.before < deque_capacity history.before
