use Rattle.tui_textarea.proofs.ReadOnly.{text_stays}
use Rattle.tui_textarea.proofs.outcomes.laws.read_only_texts_stay.Goals as goal

pub returns : goal.returns
returns c = λ old new made returned is others after. text_stays old new made returned is others after
