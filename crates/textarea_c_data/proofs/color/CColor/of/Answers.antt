use Rattle.std.proofs.Common.{Some, ◌∙◌, ap, sym}
use Rattle.textarea_c_data.specs.Styles.{color_of}
use Rattle.textarea_c_data.proofs.Colors.{color_read}
use Rattle.textarea_c_data.proofs.color.CColor.of.Goals as goal

pub returns-in-Some-clause-read : goal.returns-in-Some-clause-read
returns-in-Some-clause-read c = ap color_of c.some.ensures ∙ color_read c.in-Some.color ∙ sym (ap Some c.in-Some.is)
