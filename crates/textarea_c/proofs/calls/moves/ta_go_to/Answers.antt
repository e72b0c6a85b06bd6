use Rattle.textarea_data.specs.declared.range.AtomicCursorBias.TheVariants.{Forward}
use Rattle.tui_textarea.specs.Moves.{gone_to}
use Rattle.tui_textarea.specs.Units.{settled}
use Rattle.textarea_c.specs.Calls.{Sets}
use Rattle.textarea_c.proofs.Tried.{lifted}
use Rattle.textarea_c.proofs.calls.moves.ta_go_to.Goals as goal

pub returns : goal.returns
returns c =
    let status = c.go_to_position-status.result in
    lifted c.args.handle.now.stored.content c.put.new.self.stored.content status (λ a b. Sets (settled Forward (gone_to a.area (c.args.row, c.args.column))) status a b)
    c.in-Some.editor.value c.go_to_position-status.new.editor c.deref_mut.result.now c.in-Some.ensures.taken c.deref_mut.ensures.value c.put.ensures c.go_to_position-status.ensures
