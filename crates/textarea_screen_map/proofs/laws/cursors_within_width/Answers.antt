use Rattle.textarea_screen_map.proofs.FittingRows.{greatest_within}
use Rattle.textarea_screen_map.proofs.laws.cursors_within_width.Goals as goal

pub returns : goal.returns
returns c = λ w lines rows row h wraps tabs all below. greatest_within w lines rows h row wraps tabs all below
