use Rattle.std.proofs.Common.{[], ◌∷◌, ◌++◌, ◌∙◌, ap, string_bytes}
use Rattle.std.specs.Str.{chars}
use Rattle.textarea_text.proofs.Prelude.{append_assoc, IsUtf8-string_bytes}
use Rattle.textarea_text.proofs.Columns.{chars-push_str}
use Rattle.textarea_text.proofs.FragmentLemmas.{chars_line_feed}
use Rattle.textarea_text.proofs.fragment.push_ended_line.Goals as goal

pub returns : goal.returns
returns c =
    let put = chars-push_str (string_bytes c.args.text.now) c.args.line.now (string_bytes c.push_str.new.self) (IsUtf8-string_bytes c.args.text.now) c.utf8.line (IsUtf8-string_bytes c.push_str.new.self) c.in_ok-push_str.ensures.bytes in
    let fed = chars_line_feed (string_bytes c.push_str.new.self) (string_bytes c.push.new.self) (IsUtf8-string_bytes c.push_str.new.self) c.in_ok-push.ensures.bytes in
    fed ∙ ap (λ t. t ++ 10 ∷ []) put ∙ append_assoc (chars (string_bytes c.args.text.now)) (chars c.args.line.now) (10 ∷ [])
