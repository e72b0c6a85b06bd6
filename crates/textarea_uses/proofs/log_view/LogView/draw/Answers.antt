use Rattle.std.proofs.Common.{ap, refl, ⊎_elim}
use Rattle.textarea_calls.specs.declared.call.Call.TheVariants as call
use Rattle.tui_textarea.specs.CallResults.{Done}
use Rattle.tui_textarea.specs.State.{State}
use Rattle.tui_textarea.proofs.Ends.{either_end}
use Rattle.textarea_uses.proofs.log_view.LogView.draw.Goals as goal

pub returns-clause-text : goal.returns-clause-text
returns-clause-text c =
    ⊎_elim
    (λ drawn. c.others_edit_nothing.ensures.text c.args.self.now.area c.render.new.self (call.Render c.args.screen) Done refl drawn)
    (λ same. ap (λ (s : State). s.document.text) same)
    (either_end c.render.result c.render.ensures.ok c.render.ensures.err)
