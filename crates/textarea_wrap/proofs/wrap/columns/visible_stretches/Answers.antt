use Rattle.std.proofs.Common.{arith, refl}
use Rattle.textarea_wrap.proofs.VisibleLemmas.{visible_further}
use Rattle.textarea_wrap.proofs.wrap.columns.visible_stretches.Goals as goal

pub stretches-preserved : goal.stretches-preserved
stretches-preserved c = (
  omega arith,
  visible_further _ _ c.stretches.count 32 c.stretches.invariant.1 refl (c.are_visible.ensures.0 c.if-are_visible.true),
)
