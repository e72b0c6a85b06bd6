use Rattle.std.proofs.Common.{◌∙◌, sym, ap}
use Rattle.textarea_script_syntax.specs.Commands.{line_meaning}
use Rattle.textarea_script_syntax.proofs.Lines.{meaning_of_line-utf8, meaning_of_line-other}
use Rattle.textarea_script_syntax.proofs.commands.read_line.Goals as goal

pub returns-in_default-clause-means : goal.returns-in_default-clause-means
returns-in_default-clause-means c = meaning_of_line-other c.args.line.now c.in_default.ensures.cases.0

pub returns-in-Ok-content_of-clause-means : goal.returns-in-Ok-content_of-clause-means
returns-in-Ok-content_of-clause-means c =
    meaning_of_line-utf8 c.args.line.now c.in-Ok.ensures.cases.1 ∙ ap line_meaning (sym c.in-Ok.ensures.cases.0) ∙ c.in-Ok-content_of.ensures.means

pub returns-in-Err-NoCommand-clause-means : goal.returns-in-Err-NoCommand-clause-means
returns-in-Err-NoCommand-clause-means c =
    let means = rw c.in-Err-NoCommand.field-0-is at c.in-Err-NoCommand.ensures.means in
    meaning_of_line-utf8 c.args.line.now c.in-Ok.ensures.cases.1 ∙ ap line_meaning (sym c.in-Ok.ensures.cases.0) ∙ means
