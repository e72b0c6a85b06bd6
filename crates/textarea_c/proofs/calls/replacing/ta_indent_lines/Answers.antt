use Rattle.std.specs.Prelude.{◌&&◌, None, if◌then◌else◌, not}
use Rattle.textarea_data.specs.declared.range.AtomicCursorBias.TheVariants.{Forward}
use Rattle.textarea_document.specs.Indenting.{lines_indented, shifts_lines}
use Rattle.tui_textarea.specs.Prelude.{bars_indent, with_document}
use Rattle.tui_textarea.specs.Units.{settled}
use Rattle.textarea_c.specs.Calls.{Replaces, with_area}
use Rattle.textarea_c.proofs.Tried.{lifted, replaced}
use Rattle.textarea_c.proofs.calls.replacing.ta_indent_lines.Goals as goal

pub returns : goal.returns
returns c =
    let a = c.deref_mut.result.now in let made = c.indent_lines.ensures in
    lifted c.args.handle.now.stored.content c.put.new.self.stored.content c.flag-status.result
    (λ a b. Replaces (not (bars_indent a.area) && shifts_lines a.area.document None)
    (if bars_indent a.area then a.area else settled Forward (with_document a.area (lines_indented a.area.document a.area.settings.hard_tab_indent a.area.time))) c.flag-status.result a b)
    c.in-Some.editor.value (with_area a c.indent_lines.new.self) a c.in-Some.ensures.taken c.deref_mut.ensures.value c.put.ensures
    (replaced c.indent_lines.result c.flag-status.result (not (bars_indent a.area) && shifts_lines a.area.document None)
    (if bars_indent a.area then a.area else settled Forward (with_document a.area (lines_indented a.area.document a.area.settings.hard_tab_indent a.area.time))) c.indent_lines.new.self a
    made.indented made.ok made.err c.flag-status.ensures.ok c.flag-status.ensures.no_memory)
