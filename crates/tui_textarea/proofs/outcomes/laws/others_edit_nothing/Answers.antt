use Rattle.tui_textarea.proofs.Unedited.{unedited}
use Rattle.tui_textarea.proofs.outcomes.laws.others_edit_nothing.Goals as goal

pub returns-clause-no_splice : goal.returns-clause-no_splice
returns-clause-no_splice c = λ state made none. (unedited state made none).no_splice

pub returns-clause-text : goal.returns-clause-text
returns-clause-text c = λ old new made returned none after. (unedited old made none).text_stays returned new after
