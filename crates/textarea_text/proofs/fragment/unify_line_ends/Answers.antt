use Rattle.std.proofs.Common.{arith, ◌++◌, ◌∙◌, ap, rules}
use Rattle.textarea_text.proofs.Prelude.{common_steps, IsUtf8-string_bytes, chars-nil}
use Rattle.textarea_text.specs.Prelude.{chars, unified}
use Rattle.textarea_text.proofs.Columns.{chars-push_str}
use Rattle.textarea_text.proofs.fragment.unify_line_ends.Goals as goal

pub loop-before-init : goal.loop-before-init
loop-before-init c = (search rules, ap (λ t. chars t ++ unified (chars c.args.text.now)) c.in_ok-unified.ensures.bytes ∙ ap (λ t. t ++ unified (chars c.args.text.now)) chars-nil)

pub returns : goal.returns
returns c =
    grind (arith, common_steps, chars-push_str, IsUtf8-string_bytes)
