use Rattle.textarea_document.specs.DocumentRows.{IsAboveCursor, IsBelowCursor, text_and_layout}
use Rattle.textarea_document.proofs.laws.one_place_up_and_down.Goals as goal

pub returns-clause-above : goal.returns-clause-above
unfolding IsAboveCursor
returns-clause-above c = λ document. c.one_place_up_and_down.ensures.above (text_and_layout document) document.cursor

pub returns-clause-below : goal.returns-clause-below
unfolding IsBelowCursor
returns-clause-below c = λ document. c.one_place_up_and_down.ensures.below (text_and_layout document) document.cursor
