use Rattle.tui_textarea.proofs.Frames.{measured_around, measured_placeholder, measured_rows}
use Rattle.tui_textarea.proofs.laws.measured_as_drawn.Goals as goal

pub returns-clause-rows : goal.returns-clause-rows
returns-clause-rows c = λ old new area measure view m drawn.
    measured_rows c.settings_stay.ensures.text c.wrapped_as_measured.ensures c.one_row_count.ensures old new area measure view
    (measured_around c.settings_stay.ensures.put old new area measure drawn m) drawn

pub returns-clause-placeholder : goal.returns-clause-placeholder
returns-clause-placeholder c = λ old new area measure view m drawn.
    measured_placeholder old new area measure view (measured_around c.settings_stay.ensures.put old new area measure drawn m) drawn
