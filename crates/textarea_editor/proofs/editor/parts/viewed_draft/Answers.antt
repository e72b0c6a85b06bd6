use Rattle.std.proofs.Common.{string_bytes}
use Rattle.textarea_editor.proofs.ReadOnlyTexts.{viewed_after, written_after}
use Rattle.textarea_editor.proofs.editor.parts.viewed_draft.Goals as goal

pub returns-in-Ok-clause-written : goal.returns-in-Ok-clause-written
returns-in-Ok-clause-written c =
    written_after _ c.set_read_only.new.self.area _ (string_bytes c.args.text) c.in-Ok.ensures.area c.in_ok-draft.ensures.written

pub returns-in-Ok-clause-viewed : goal.returns-in-Ok-clause-viewed
returns-in-Ok-clause-viewed c =
    viewed_after _ c.set_read_only.new.self.area c.args.wraps c.in-Ok.ensures.area c.in_ok-draft.ensures.opened

pub returns-in-Ok-clause-saved : goal.returns-in-Ok-clause-saved
returns-in-Ok-clause-saved c = c.in-Ok.ensures.saved c.in_ok-draft.ensures.saved
