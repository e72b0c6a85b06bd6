use Rattle.std.proofs.Common.{Option, subst}
use Rattle.textarea_data.specs.declared.range.AtomicRange.{AtomicRange}
use Rattle.textarea_data.specs.declared.range.AtomicCursorBias.TheVariants.{Forward}
use Rattle.tui_textarea.specs.Units.{settled}
use Rattle.tui_textarea.specs.Guards.{removable_range, unless_read_only}
use Rattle.tui_textarea.specs.Ranges.{atomic_range_removed}
use Rattle.textarea_c_data.specs.Ranges.{IsRangeOut}
use Rattle.textarea_c.proofs.Tried.{range_left, range_removed}
use Rattle.textarea_c.proofs.calls.ranges.remove_range.Goals as goal

pub returns-in-Ok-clause-area : goal.returns-in-Ok-clause-area
returns-in-Ok-clause-area c =
    let a = c.args.editor.now in
    range_removed c.in-Ok.removed (removable_range a.area c.args.direction) c.write_range.result c.write_range.new.range (unless_read_only a.area (settled Forward (atomic_range_removed a.area c.args.direction))) a
    c.delete_atomic_range_at_cursor.new.self c.in-Ok.ensures.removed c.in-Ok.ensures.ok c.write_range.ensures.range

pub returns-in-Ok-clause-range : goal.returns-in-Ok-clause-range
returns-in-Ok-clause-range c = λ _. subst (λ (found : Option AtomicRange). IsRangeOut found c.write_range.result c.write_range.new.range) c.in-Ok.ensures.removed c.write_range.ensures.range

pub returns-in-Err-clause-area : goal.returns-in-Err-clause-area
returns-in-Err-clause-area c =
    let a = c.args.editor.now in
    range_left (removable_range a.area c.args.direction) (unless_read_only a.area (settled Forward (atomic_range_removed a.area c.args.direction))) a c.delete_atomic_range_at_cursor.new.self c.in-Err.ensures.err c.in-Err.ensures.nothing
