use Rattle.textarea_document.proofs.ReplacedTexts.{replaced_text}
use Rattle.textarea_document.proofs.laws.stretches_are_replaced.Goals as goal

pub returns : goal.returns
returns c = replaced_text
