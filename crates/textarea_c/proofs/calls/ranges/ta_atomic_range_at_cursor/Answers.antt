use Rattle.std.proofs.Common.{◌≡◌, MatchOption}
use Rattle.textarea_document.specs.Edits.{range_at_cursor}
use Rattle.textarea_c_data.specs.Numbers.{direction_of}
use Rattle.textarea_c_data.specs.Ranges.{IsRangeOut}
use Rattle.textarea_c.proofs.Tried.{seen_in}
use Rattle.textarea_c.proofs.calls.ranges.ta_atomic_range_at_cursor.Goals as goal

pub returns-clause-range : goal.returns-clause-range
returns-clause-range c =
    let status = c.find_range-status.result in
    seen_in c.args.handle.now.stored.content
    (λ a. MatchOption (direction_of c.args.direction) (status ≡ 6) (λ side. IsRangeOut (range_at_cursor a.area.document side) status c.find_range-status.new.range))
    c.in-Some.editor.value c.deref.result.now c.in-Some.ensures.taken c.deref.ensures c.find_range-status.ensures.range
