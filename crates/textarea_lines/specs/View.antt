-- A borrow of lines with their rows, the current ones or those at a prepared width.
use Rattle.std.specs.Prelude.{◌≡◌, ℕ, ◌+◌, true, false, Option, MatchOption, length}
use Rattle.textarea_text.specs.Text.{lines}
use Rattle.textarea_screen_map.specs.LineRows.{AreRowsOf, ticks_after, ticks_of}
use Rattle.textarea_screen_map.specs.BorrowedLines.{BorrowedRows}
use Rattle.textarea_screen_map.specs.declared.layout.Wrapping.{Wrapping}
use Rattle.textarea_lines.specs.declared.rewrap.WrappedRows.{WrappedRows}
use Rattle.textarea_lines.specs.declared.settings.LayoutSettings.{LayoutSettings}
use Rattle.textarea_lines.specs.TextLayout.{TextAndLayout, at_width, keeps_wrapping, wrapping_of}
use Rattle.textarea_lines.specs.TextRows.{HasLayout}
use Rattle.textarea_lines.specs.Wrappings.{wrapping_for}

-- a borrow of the text's lines with their right rows, ticks included
pub record IsViewOf (text_layout : TextAndLayout) (view : BorrowedRows) : Type 0 where
  pub lines : view.lines ≡ lines text_layout.text
  pub wrapping : view.wrapping ≡ wrapping_of text_layout
  pub rows : HasLayout text_layout view.rows

-- ---- another width

-- the prepared inner width and, if lines are wrapped for it, their rows and the count after that
pub record PreparedView : Type 0 where
  pub inner_width : ℕ
  pub wraps : Option WrappedRows

-- all lines of the text, wrapped in this way, each once, with the next ticks of the count
pub record IsWholeWrap (text_layout : TextAndLayout) (way : Wrapping) (wraps : WrappedRows) : Type 0 where
  pub wrapping : wraps.map.wrapping ≡ way
  pub rows : AreRowsOf wraps.map.wrapping (lines text_layout.text) wraps.map.rows
  pub ticks : ticks_of wraps.map.rows ≡ ticks_after text_layout.layout.count (length (lines text_layout.text))
  pub count : wraps.count ≡ text_layout.layout.count + length (lines text_layout.text)

-- the settings change how the text is wrapped, and these are its rows then
pub record IsRewrappedFor (text_layout : TextAndLayout) (settings : LayoutSettings) (wraps : WrappedRows) : Type 0 where
  pub differs : keeps_wrapping text_layout settings ≡ false
  pub whole : IsWholeWrap text_layout (wrapping_for settings (length (lines text_layout.text))) wraps

-- there are rows for the settings if these change how the text is wrapped, and only then
abbrev pub IsRewrappedIfOther : TextAndLayout → LayoutSettings → Option WrappedRows → Type 0
IsRewrappedIfOther text_layout settings wraps = MatchOption wraps (keeps_wrapping text_layout settings ≡ true) (IsRewrappedFor text_layout settings)

-- the width was prepared for this text with its layout
pub record IsPrepared (text_layout : TextAndLayout) (prepared : PreparedView) : Type 0 where
  pub wraps : IsRewrappedIfOther text_layout (at_width text_layout prepared.inner_width) prepared.wraps
