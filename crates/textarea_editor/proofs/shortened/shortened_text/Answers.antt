use Rattle.std.proofs.Common.{◌∙◌, ◌++◌, ap}
use Rattle.std.proofs.lemmas.Str.{chars-nil}
use Rattle.std.specs.Str.{chars}
use Rattle.textarea_editor.specs.Shortened.{shortened}
use Rattle.textarea_editor.proofs.shortened.shortened_text.Goals as goal

pub returns : goal.returns
returns c =
    c.in_ok-push_shortened.ensures ∙ ap (λ t. chars t ++ shortened c.args.name.now c.args.room) c.new-text.ensures.bytes
    ∙ ap (λ l. l ++ shortened c.args.name.now c.args.room) chars-nil
