use Rattle.std.proofs.Common.{◌∙◌, ap, inl}
use Rattle.textarea_editor.proofs.Storages.{file_taken}
use Rattle.textarea_editor.specs.Openings.{with_told}
use Rattle.textarea_editor.proofs.storage.Storage.open.Goals as goal

pub returns : goal.returns
returns c =
    inl (file_taken c.args.self.now c.lock-is_first.new.self c.open_text.new.self c.args.editor.now c.open_text.new.editor c.tell.new.editor c.args.name.now c.in-Ok.text
    c.read.new.self c.find-found.new.self c.find-found.result c.lock-is_first.result c.refusal-refusal.result
    c.in-Ok.ensures c.find-found.ensures c.lock-is_first.ensures c.in_ok-open_text.ensures.ok
    (c.tell.ensures ∙ ap (λ m. with_told m c.open_text.new.editor) c.told_at_opening.ensures))
