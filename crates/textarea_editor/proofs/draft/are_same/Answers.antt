use Rattle.textarea_editor.proofs.Saved.{lines_compared}
use Rattle.textarea_editor.proofs.draft.are_same.Goals as goal

pub returns : goal.returns
returns c = lines_compared c.args.lines.now c.args.copy.now c.eq.result c.eq.ensures
