use Rattle.textarea_editor.proofs.Storages.{opened_with}
use Rattle.textarea_editor.proofs.storage.Storage.open_beside.Goals as goal

pub returns-clause-ok : goal.returns-clause-ok
returns-clause-ok c =
    opened_with c.args.name.now c.bytes_of-bytes.result.now c.as_slice.result.now c.args.journal.items c.args.text c.in_ok-found.found c.has_changes-has_changes.result
    c.args.self.now c.weigh.new.self c.args.editor.now c.open_in.new.editor c.weigh.new.editor
    c.bytes_of-bytes.ensures c.as_slice.ensures.value c.in_ok-found.ensures c.has_changes-has_changes.ensures c.in_ok-open_in.ensures.ok c.weigh.ensures
