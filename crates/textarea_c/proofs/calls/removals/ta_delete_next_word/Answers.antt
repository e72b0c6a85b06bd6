use Rattle.std.proofs.Common.{◌&&◌}
use Rattle.textarea_calls.specs.declared.call.Call.TheVariants as call
use Rattle.tui_textarea.specs.Removals.{has_word_after, removes_or, unselected_or, word_after_removed}
use Rattle.textarea_data.specs.declared.range.AtomicCursorBias.TheVariants.{Forward}
use Rattle.tui_textarea.specs.Units.{settled}
use Rattle.tui_textarea.specs.Guards.{is_editable, unless_read_only}
use Rattle.textarea_c.specs.Calls.{MakesAttempt, with_area}
use Rattle.textarea_c.proofs.Tried.{lifted, tried}
use Rattle.textarea_c.proofs.calls.removals.ta_delete_next_word.Goals as goal

pub returns : goal.returns
returns c =
    let a = c.deref_mut.result.now in let removed = c.delete_next_word.ensures in
    lifted c.args.handle.now.stored.content c.put.new.self.stored.content c.flag-status.result (λ a b. MakesAttempt call.DeleteNextWord c.flag-status.result a b)
    c.in-Some.editor.value (with_area a c.delete_next_word.new.self) a c.in-Some.ensures.taken c.deref_mut.ensures.value c.put.ensures
    (tried c.delete_next_word.result c.flag-status.result (is_editable a.area && removes_or a.area (has_word_after a.area))
    (unless_read_only a.area (settled Forward (unselected_or a.area (word_after_removed a.area)))) c.delete_next_word.new.self a
    removed.removed removed.ok removed.err removed.nothing c.flag-status.ensures.ok c.flag-status.ensures.no_memory)
