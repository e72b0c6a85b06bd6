use Rattle.textarea_c_data.proofs.Texts.{no_text, text_is}
use Rattle.textarea_c_data.proofs.slices.text_of.Goals as goal

pub returns-in-Ok : goal.returns-in-Ok
returns-in-Ok c = let cases = c.in-Ok.ensures.cases in text_is c.args.bytes.now c.in-Ok.text.now cases.0 cases.1

pub returns-in-Err : goal.returns-in-Err
returns-in-Err c = no_text c.args.bytes.now c.in-Err.ensures.cases.0
