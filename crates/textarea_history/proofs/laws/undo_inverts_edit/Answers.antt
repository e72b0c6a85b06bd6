use Rattle.textarea_text.proofs.TextPlaces.{takes_back}
use Rattle.textarea_history.proofs.laws.undo_inverts_edit.Goals as goal

pub returns : goal.returns
returns c = λ text splice fits. let undone_splice = takes_back text splice fits in record { fits = undone_splice.fits; back = undone_splice.back }
