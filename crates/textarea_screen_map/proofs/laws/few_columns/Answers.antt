use Rattle.textarea_screen_map.proofs.FittingRows.{greatest_few}
use Rattle.textarea_screen_map.proofs.laws.few_columns.Goals as goal

pub returns : goal.returns
returns c = λ w lines rows row h tabs below. greatest_few w lines rows h row tabs below
