use Rattle.std.proofs.Common.{◌&&◌, Some}
use Rattle.textarea_data.specs.declared.range.AtomicCursorBias.TheVariants.{Forward}
use Rattle.textarea_document.specs.Indenting.{lines_outdented, shifts_lines}
use Rattle.tui_textarea.specs.Prelude.{is_editable, unless_read_only, with_document}
use Rattle.tui_textarea.specs.Units.{settled}
use Rattle.textarea_c.specs.Calls.{Replaces, with_area}
use Rattle.textarea_c.proofs.Tried.{lifted, replaced}
use Rattle.textarea_c.proofs.calls.replacing.ta_outdent_lines.Goals as goal

pub returns : goal.returns
returns c =
    let a = c.deref_mut.result.now in let made = c.outdent_lines.ensures in
    lifted c.args.handle.now.stored.content c.put.new.self.stored.content c.flag-status.result
    (λ a b. Replaces (is_editable a.area && shifts_lines a.area.document (Some a.area.settings.cursor_unit))
    (unless_read_only a.area (settled Forward (with_document a.area (lines_outdented a.area.document a.area.settings.cursor_unit a.area.time)))) c.flag-status.result a b)
    c.in-Some.editor.value (with_area a c.outdent_lines.new.self) a c.in-Some.ensures.taken c.deref_mut.ensures.value c.put.ensures
    (replaced c.outdent_lines.result c.flag-status.result (is_editable a.area && shifts_lines a.area.document (Some a.area.settings.cursor_unit))
    (unless_read_only a.area (settled Forward (with_document a.area (lines_outdented a.area.document a.area.settings.cursor_unit a.area.time)))) c.outdent_lines.new.self a
    made.outdented made.ok made.err c.flag-status.ensures.ok c.flag-status.ensures.no_memory)
