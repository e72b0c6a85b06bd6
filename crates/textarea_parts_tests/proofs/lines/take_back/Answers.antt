use Rattle.std.proofs.Common.{subst, sym}
use Rattle.textarea_text.specs.Splice.{Fits}
use Rattle.textarea_parts_tests.proofs.lines.take_back.Goals as goal

pub apply-requires : goal.apply-requires
apply-requires c = subst (Fits _) (sym c.inverse.ensures) c.requires.fits
