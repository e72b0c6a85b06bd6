use Rattle.textarea_data.specs.declared.cursor.CursorMove.TheVariants as move
use Rattle.tui_textarea.specs.Drawing.{viewport_scrolled}
use Rattle.tui_textarea.proofs.Frames.{layout_moved, width_moved}
use Rattle.tui_textarea.proofs.laws.moves_wrap_nothing.Goals as goal

pub returns-clause-moved : goal.returns-clause-moved
returns-clause-moved c = layout_moved

pub returns-clause-scrolled : goal.returns-clause-scrolled
returns-clause-scrolled c = λ old new shift scrolling. layout_moved (viewport_scrolled old scrolling) new shift move.InViewport

pub returns-clause-width_moved : goal.returns-clause-width_moved
returns-clause-width_moved c = width_moved

pub returns-clause-width_scrolled : goal.returns-clause-width_scrolled
returns-clause-width_scrolled c = λ old new shift scrolling. width_moved (viewport_scrolled old scrolling) new shift move.InViewport
