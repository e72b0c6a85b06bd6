use Rattle.std.specs.Prelude.{◌&&◌, if◌then◌else◌, not}
use Rattle.tui_textarea.specs.Edits.{inserts_tab, tab_inserted}
use Rattle.textarea_data.specs.declared.range.AtomicCursorBias.TheVariants.{Forward}
use Rattle.tui_textarea.specs.Units.{settled}
use Rattle.tui_textarea.specs.Guards.{bars_tab}
use Rattle.textarea_c.specs.Calls.{TriesToInsert, with_area}
use Rattle.textarea_c.proofs.Tried.{lifted, tried_insertion}
use Rattle.textarea_c.proofs.calls.edits.ta_insert_tab.Goals as goal

pub returns : goal.returns
returns c =
    let a = c.deref_mut.result.now in let inserted = c.insert_tab.ensures in
    lifted c.args.handle.now.stored.content c.put.new.self.stored.content c.flag-status.result
    (λ a b. TriesToInsert (not (bars_tab a.area) && inserts_tab a.area) (not (bars_tab a.area) && inserts_tab a.area) (if bars_tab a.area then a.area else settled Forward (tab_inserted a.area)) c.flag-status.result a b)
    c.in-Some.editor.value (with_area a c.insert_tab.new.self) a c.in-Some.ensures.taken c.deref_mut.ensures.value c.put.ensures
    (tried_insertion c.insert_tab.result c.flag-status.result (not (bars_tab a.area) && inserts_tab a.area) (not (bars_tab a.area) && inserts_tab a.area)
    (if bars_tab a.area then a.area else settled Forward (tab_inserted a.area)) c.insert_tab.new.self a
    inserted.inserted inserted.ok inserted.err inserted.nothing c.flag-status.ensures.ok c.flag-status.ensures.no_memory)
