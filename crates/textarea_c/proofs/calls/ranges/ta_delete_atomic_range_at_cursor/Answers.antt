use Rattle.std.proofs.Common.{◌≡◌, ◌≢◌, MatchOption, is_some}
use Rattle.textarea_data.specs.declared.range.AtomicCursorBias.TheVariants.{Forward}
use Rattle.tui_textarea.specs.Units.{settled}
use Rattle.tui_textarea.specs.Guards.{removable_range, unless_read_only}
use Rattle.tui_textarea.specs.Ranges.{atomic_range_removed}
use Rattle.textarea_c.specs.Calls.{TriesBy}
use Rattle.textarea_c_data.specs.Numbers.{direction_of}
use Rattle.textarea_c_data.specs.Ranges.{IsRangeOut}
use Rattle.textarea_c.proofs.Tried.{lifted, seen_in}
use Rattle.textarea_c.proofs.calls.ranges.ta_delete_atomic_range_at_cursor.Goals as goal

pub returns-clause-area : goal.returns-clause-area
returns-clause-area c =
    let status = c.remove_numbered-status.result in
    lifted c.args.handle.now.stored.content c.put.new.self.stored.content status
    (λ a b. TriesBy (direction_of c.args.direction) (λ side. is_some (removable_range a.area side)) (λ side. unless_read_only a.area (settled Forward (atomic_range_removed a.area side))) status a b)
    c.in-Some.editor.value c.remove_numbered-status.new.editor c.deref_mut.result.now c.in-Some.ensures.taken c.deref_mut.ensures.value c.put.ensures c.remove_numbered-status.ensures.area

pub returns-clause-range : goal.returns-clause-range
returns-clause-range c =
    let status = c.remove_numbered-status.result in
    seen_in c.args.handle.now.stored.content
    (λ a. MatchOption (direction_of c.args.direction) (status ≡ 6) (λ side. status ≢ 2 → IsRangeOut (removable_range a.area side) status c.remove_numbered-status.new.range))
    c.in-Some.editor.value c.deref_mut.result.now c.in-Some.ensures.taken c.deref_mut.ensures.value c.remove_numbered-status.ensures.range
