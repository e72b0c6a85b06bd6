use Rattle.std.proofs.Common.{rules}
use Rattle.textarea_editor.proofs.Drafts.{fails_early, on_err}
use Rattle.textarea_editor.proofs.editor.Editor.edit_prompt.Goals as goal
use Rattle.textarea_editor.specs.EventCalls.{IsPromptInput}

pub returns-in_err-is_edited : goal.returns-in_err-is_edited
returns-in_err-is_edited c =
    let failed = on_err c.from_residual.result (fails_early (IsPromptInput c.args.asked c.args.self.now.controls c.args.self.now.field c.args.input.now) c.args.self.now.draft) in
    search (rules, failed)
