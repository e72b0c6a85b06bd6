use Rattle.std.proofs.Common.{◌||◌, ltb, ap, ◌∙◌}
use Rattle.std.specs.List.{list_any}
use Rattle.std.specs.Prelude.{chars}
use Rattle.textarea_terminal.specs.Disputed.{is_disputed, is_joining}
use Rattle.textarea_terminal.proofs.output.width.is_any_disputed.Goals as goal

pub returns : goal.returns
unfolding is_disputed
returns c =
    c.either.ensures ∙ ap (λ b. b || ltb 1 c.count_with_columns.result) c.has_joining.ensures
    ∙ ap (λ n. list_any is_joining (chars c.args.text.now) || ltb 1 n) c.count_with_columns.ensures
