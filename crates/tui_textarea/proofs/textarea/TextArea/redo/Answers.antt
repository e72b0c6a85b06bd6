use Rattle.std.proofs.lemmas.Bool.{false≢true}
use Rattle.textarea_history.specs.Log.{next}
use Rattle.tui_textarea.proofs.Guarded.{none_found}
use Rattle.tui_textarea.proofs.textarea.TextArea.redo.Goals as goal

pub returns-in_err-redone-clause-nothing : goal.returns-in_err-redone-clause-nothing
returns-in_err-redone-clause-nothing c = λ none.
    let now = c.args.self.now in
    absurd (false≢true (c.in_err-redone.ensures.nothing (none_found now.settings.read_only c.read_only.result (next now.document.log) c.read_only.ensures c.if-read_only.false none)))
