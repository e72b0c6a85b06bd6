use Rattle.std.proofs.Common.{refl}
use Rattle.textarea_calls.specs.declared.call.Call.TheVariants as call
use Rattle.tui_textarea.specs.CallResults.{Done}
use Rattle.textarea_uses.proofs.log_view.LogView.take.Goals as goal

pub returns-in-Some-clause-text : goal.returns-in-Some-clause-text
returns-in-Some-clause-text c = c.others_edit_nothing.ensures.text c.args.self.now.area c.scroll.new.self (call.Scroll c.in-Some.scrolling) Done refl c.scroll.ensures
