use Rattle.std.proofs.Common.{◌∙◌}
use Rattle.textarea_editor.proofs.Replacing.{past_last, past_more}
use Rattle.textarea_editor.proofs.editor.Editor.pass_match.Goals as goal

pub returns-then-self-lt2-clause-controls : goal.returns-then-self-lt2-clause-controls
returns-then-self-lt2-clause-controls c = c.end_replacing.ensures.controls ∙ past_last c.args.self.now.controls c.if-self-lt2.true

pub returns-clause-controls : goal.returns-clause-controls
returns-clause-controls c = past_more c.args.self.now.controls c.if-self-lt2.false
