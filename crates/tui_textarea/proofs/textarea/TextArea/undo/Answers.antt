use Rattle.std.proofs.lemmas.Bool.{false≢true}
use Rattle.textarea_history.specs.Log.{newest}
use Rattle.tui_textarea.proofs.Guarded.{none_found}
use Rattle.tui_textarea.proofs.textarea.TextArea.undo.Goals as goal

pub returns-in_err-undone-clause-nothing : goal.returns-in_err-undone-clause-nothing
returns-in_err-undone-clause-nothing c = λ none.
    let now = c.args.self.now in
    absurd (false≢true (c.in_err-undone.ensures.nothing (none_found now.settings.read_only c.read_only.result (newest now.document.log) c.read_only.ensures c.if-read_only.false none)))
