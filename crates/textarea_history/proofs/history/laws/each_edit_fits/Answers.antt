use Rattle.textarea_history.proofs.LogLaws.{each_fits}
use Rattle.textarea_history.proofs.history.laws.each_edit_fits.Goals as goal

pub returns : goal.returns
returns c = each_fits
