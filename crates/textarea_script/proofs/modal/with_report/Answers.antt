use Rattle.std.proofs.Common.{◌∙◌, ap, length, refl, string_bytes, take}
use Rattle.std.proofs.lemmas.List.{take_at}
use Rattle.textarea_script.proofs.modal.with_report.Goals as goal

pub returns : goal.returns
returns c =
    let head = string_bytes c.args.head in
    ap (take (length head)) c.in_ok-push_str.ensures.bytes ∙ take_at head _ (length head) refl
