-- The measured height.
use Rattle.std.specs.Prelude.{◌≡◌, ◌⊎◌, ℕ, Bool, not}
use Rattle.textarea_lines.specs.TextLayout.{is_wrapped_at}
use Rattle.textarea_view.specs.Measure.{measure_of, width_inside}
use Rattle.textarea_data.specs.declared.measure.TextAreaMeasure.{TextAreaMeasure}
use Rattle.textarea_document.specs.Edits.{has_symbols}
use Rattle.textarea_document.specs.DocumentRows.{HasRowsAt, text_and_layout}
use Rattle.tui_textarea.specs.State.{State}
use Rattle.textarea_view.specs.SurroundState.{SurroundState}

-- the measure of an area of this width: that of the surround, for the number of rows of the text in
-- a layout from scratch inside the block
pub record IsMeasured (state : State) (width : ℕ) (measure : TextAreaMeasure) : Type 0 where
  pub rows : ℕ
  pub rows_are : HasRowsAt state.document (width_inside state.surround.block width) rows
  pub measure_is : measure ≡ measure_of state.surround rows (not (has_symbols state.document.text))

-- it is the measure of an area of this width before or after a change of the state
abbrev pub IsMeasuredAround : State → State → ℕ → TextAreaMeasure → Type 0
IsMeasuredAround old new width measure = IsMeasured old width measure ⊎ IsMeasured new width measure

abbrev pub with_surround : State → SurroundState → State
with_surround state surround = record state { surround = surround }

-- whether the layout has the width inside the block of an area of this width
abbrev pub reads_rows : State → ℕ → Bool
reads_rows state width = is_wrapped_at (text_and_layout state.document) (width_inside state.surround.block width)
