use Rattle.std.proofs.Common.{◌∙◌, ap, encode_utf8_all, string_bytes, sym}
use Rattle.std.specs.Str.{chars}
use Rattle.std.proofs.lemmas.Str.{IsUtf8-string_bytes, encodes-chars}
use Rattle.textarea_uses.proofs.save.has_text.Goals as goal

pub returns : goal.returns
returns c =
    let text = c.in_ok-text.text in
    let both = c.is_same.ensures in
    let value = c.as_str-written.ensures.value in (
      (λ t. sym c.in_ok-text.ensures ∙ ap chars (sym value ∙ both.0 t)),
      (λ e. both.1 (value ∙ sym (encodes-chars (string_bytes text) (IsUtf8-string_bytes text)) ∙ ap encode_utf8_all (c.in_ok-text.ensures ∙ e) ∙ encodes-chars c.args.wanted.now c.utf8.wanted)),
    )
