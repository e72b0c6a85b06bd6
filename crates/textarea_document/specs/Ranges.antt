-- The documents after the calls for atomic ranges, and what each edit satisfies for ranges.
use Rattle.std.specs.Prelude.{ℕ, Bool, true, false, List, [], All, Option, None, Some, option_map, if◌then◌else◌}
use Rattle.textarea_text.specs.Text.{lines}
use Rattle.textarea_text.specs.Place.{Place, end, is_same_place}
use Rattle.textarea_text.specs.Splice.{Splice}
use Rattle.textarea_text.specs.Between.{clip}
use Rattle.textarea_data.specs.declared.range.AtomicRange.{AtomicRange}
use Rattle.textarea_data.specs.declared.range.AtomicCursorBias.{AtomicCursorBias}
use Rattle.textarea_data.specs.declared.range.AtomicCursorBias.TheVariants.{Backward, Forward}
use Rattle.textarea_ranges.specs.Lookup.{IsInside, TakesWhole, moved_out, range_start, range_end}
use Rattle.textarea_ranges.specs.Order.{in_order}
use Rattle.textarea_document.specs.DocumentState.{DocumentState}
use Rattle.textarea_document.specs.PastRanges.{no_past_ranges}
use Rattle.textarea_document.specs.Edits.{between_removed}

-- a splice splits no range: it inserts strictly inside none, or removes each completely or not at
-- all
abbrev pub SplitsNoRangeBy : Bool → List AtomicRange → Place → Place → Type 0
SplitsNoRangeBy true ranges place to = All (λ range. ¬ IsInside place range) ranges
SplitsNoRangeBy false ranges place to = TakesWhole ranges place to

abbrev pub SplitsNoRange : List AtomicRange → Splice → Type 0
SplitsNoRange ranges splice =
    SplitsNoRangeBy splice.inserts ranges splice.place (end splice.place splice.symbols)

-- a selection that began at the cursor is dropped
abbrev pub unless_empty : Option Place → Place → Option Place
unless_empty None cursor = None
unless_empty (Some anchor) cursor = if is_same_place anchor cursor then None else Some anchor

-- the selection's beginning, or, if it is strictly inside a range, that range's start
abbrev pub anchor_out : List AtomicRange → Option Place → Option Place
anchor_out ranges anchor = option_map (λ place. moved_out ranges place Backward) anchor

-- the ranges are replaced: a cursor strictly inside one moves to its end, such an anchor to its
-- start, and a selection that is empty after that is dropped; none are remembered from before
abbrev pub with_ranges : DocumentState → List AtomicRange → DocumentState
with_ranges document ranges =
    let cursor = moved_out ranges document.cursor Forward in
    record document {
      ranges = ranges;
      cursor = cursor;
      anchor = unless_empty (anchor_out ranges document.anchor) cursor;
      past_ranges = no_past_ranges document.past_ranges.on;
    }

-- the ranges are accepted: sorted by row and start, those with the same start in their given order
abbrev pub accepted : DocumentState → List AtomicRange → DocumentState
accepted document ranges = with_ranges document (in_order ranges)

-- there are no ranges, and none are remembered
abbrev pub ranges_forgotten : DocumentState → DocumentState
ranges_forgotten document =
    record document { ranges = []; past_ranges = no_past_ranges document.past_ranges.on }

-- the cursor moves out of the range that strictly contains it, and all else stays
abbrev pub normalized : DocumentState → AtomicCursorBias → DocumentState
normalized document bias =
    record document { cursor = moved_out document.ranges document.cursor bias }

-- the document has this anchor, or the end of its line if it is past that
abbrev pub anchored : DocumentState → Option Place → DocumentState
anchored document anchor =
    record document { anchor = option_map (clip (lines document.text)) anchor }

-- the range is removed, if there is one, and the selection stays
abbrev pub range_removed : Option AtomicRange → DocumentState → ℕ → DocumentState
range_removed None document now = document
range_removed (Some range) document now =
    anchored (between_removed document (range_start range) (range_end range) now) document.anchor
