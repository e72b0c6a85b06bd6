use Rattle.std.proofs.Common.{ap, ◌∙◌}
use Rattle.textarea_c_data.specs.Texts.{text_at}
use Rattle.textarea_c_data.proofs.slices.text_between.Goals as goal

pub returns-in-Some : goal.returns-in-Some
returns-in-Some c = c.text_of.ensures ∙ ap text_at c.in-Some.ensures

pub returns-in-None : goal.returns-in-None
returns-in-None c = ap text_at c.in-None.ensures
