use Rattle.std.proofs.Common.{◌∙◌, refl, sym}
use Rattle.textarea_script.proofs.Printed.{all_read}
use Rattle.textarea_script.proofs.streams.read_whole.Goals as goal

pub returns-clause-bytes : goal.returns-clause-bytes
returns-clause-bytes g c = all_read c.read_to_end.result _ _ _ (sym c.is_err.ensures.value ∙ c.if-is_err.false) c.new-bytes.ensures.items c.read_to_end.ensures.bytes

pub returns-then-is_err-clause-fails : goal.returns-then-is_err-clause-fails
returns-then-is_err-clause-fails g c = refl
