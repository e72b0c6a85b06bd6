use Rattle.std.proofs.Common.{◌&&◌, ap, ◌∙◌}
use Rattle.std.specs.List.{list_any}
use Rattle.std.specs.Prelude.{chars}
use Rattle.textarea_terminal.specs.Disputed.{can_widen, is_emoji_selector}
use Rattle.textarea_terminal.proofs.output.part.can_any_widen.Goals as goal

pub returns : goal.returns
unfolding can_widen
returns c =
    c.both.ensures ∙ ap (λ b. b && c.has_narrow.result) c.has_selector.ensures ∙ ap (λ b. list_any is_emoji_selector (chars c.args.text.now) && b) c.has_narrow.ensures
