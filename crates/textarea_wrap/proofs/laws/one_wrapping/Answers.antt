use Rattle.textarea_wrap.proofs.OneWrappingLemmas.{one_wrapping}
use Rattle.textarea_wrap.proofs.laws.one_wrapping.Goals as goal

pub returns : goal.returns
returns c = one_wrapping
