-- When the caret is shown after a drawing.
use Rattle.std.specs.Prelude.{◌≡◌, ℕ, ◌+◌, ◌-◌, ◌*◌, ◌<◌, ◌≤◌, IsSome, length}
use Rattle.textarea_document.specs.DocumentState.{DocumentState}
use Rattle.tui_textarea.specs.DrawnFrame.{WidgetState}
use Rattle.tui_textarea.specs.Hit.{IsLastArea}
use Rattle.textarea_screen.specs.declared.screen.alignment.Alignment.TheVariants.{Left}
use Rattle.textarea_screen.specs.declared.screen.rect.Rect.{Rect}
use Rattle.textarea_text.specs.Text.{lines}
use Rattle.textarea_wrap.specs.Fitting.{HaveFittingClusters}
use Rattle.textarea_wrap.specs.Metrics.{line_number_columns}
use Rattle.textarea_wrap.specs.declared.wrap.WrapMode.{WrapMode}
use Rattle.textarea_wrap.specs.declared.wrap.WrapMode.TheVariants as wrap

-- the columns of the line numbers, 0 without them
abbrev pub number_columns : DocumentState → ℕ
number_columns document = line_number_columns document.layout.settings.line_numbers (length (lines document.text))

-- The inner area is at least two columns wider than the line numbers, the tab length is at least 1,
-- and the width beside the line numbers and one column for the caret fits all grapheme clusters.
pub record HasWidthForRows (document : DocumentState) (inner_width : ℕ) : Type 0 where
  pub columns : number_columns document + 2 ≤ inner_width
  pub tabs : 1 ≤ document.layout.settings.tab_len
  pub clusters : HaveFittingClusters document.layout.settings.tab_len (inner_width - number_columns document - 1) (lines document.text)

-- without wrapping the inner area is wider than twice the line numbers
abbrev pub HasWidthForCaret : WrapMode → DocumentState → ℕ → Type 0
HasWidthForCaret wrap.None document inner_width = 2 * number_columns document < inner_width
HasWidthForCaret other document inner_width = HasWidthForRows document inner_width

-- the alignment is left, and the inner area has a row and the columns that its wrap mode needs
pub record HasRoomForCaret (widget : WidgetState) (inner : Rect) : Type 0 where
  pub left : widget.drawing.look.alignment ≡ Left
  pub row : 0 < inner.height
  pub columns : HasWidthForCaret widget.document.layout.settings.mode widget.document inner.width

-- the caret is shown if the inner area of the last drawing has room for it
abbrev pub IsCaretVisible : WidgetState → Type 0
IsCaretVisible widget = (inner : Rect) → IsLastArea widget.document widget.drawing inner
    → HasRoomForCaret widget inner → IsSome widget.drawing.caret
