use Rattle.tui_textarea.proofs.Frames.{document_stays, width_put}
use Rattle.tui_textarea.proofs.laws.drawn_at_its_width.Goals as goal

pub returns-clause-put : goal.returns-clause-put
returns-clause-put c = width_put c.settings_stay.ensures.put

pub returns-clause-stays : goal.returns-clause-stays
returns-clause-stays c = document_stays c.settings_stay.ensures.again
