-- What the keys do while the help is shown.
use Rattle.std.specs.Prelude.{◌≡◌, ℕ, pos, negsuc, ◌-◌, ◌==◌, ◌&&◌, nat_lt, Bool, true, false, if◌then◌else◌, length}
use Rattle.textarea_data.specs.declared.cursor.CursorMove.TheVariants.{Bottom}
use Rattle.textarea_data.specs.declared.input.Input.{Input}
use Rattle.textarea_data.specs.declared.input.Key.{Key}
use Rattle.textarea_data.specs.declared.input.Key.TheVariants as key
use Rattle.textarea_data.specs.declared.scroll.Scrolling.{Scrolling}
use Rattle.textarea_data.specs.declared.scroll.Scrolling.TheVariants as scrolling
use Rattle.textarea_editor.specs.PromptKeys.{quits}
use Rattle.textarea_editor.specs.declared.focus.HelpKey.{HelpKey}
use Rattle.textarea_editor.specs.declared.focus.HelpKey.TheVariants.{Leave, Other, Quit, Scroll}
use Rattle.textarea_text.specs.Text.{lines}
use Rattle.textarea_view.specs.Scrolled.{scrolled_by}
use Rattle.textarea_view.specs.Viewport.{ViewportState}
use Rattle.tui_textarea.specs.Moves.{IsMoved, IsScrolled}
use Rattle.tui_textarea.specs.State.{State}

-- the first function key closes the help that it opened
abbrev pub help_function_key : ℕ → HelpKey
help_function_key number = if number == 1 then Leave else Other

-- arrows and the wheel scroll by a row, and the page keys by a page; Esc closes the help
abbrev pub plain_help_key : Key → HelpKey
plain_help_key key.Down = Scroll (scrolling.Delta (pos 1) (pos 0))
plain_help_key key.MouseScrollDown = Scroll (scrolling.Delta (pos 1) (pos 0))
plain_help_key key.Up = Scroll (scrolling.Delta (negsuc 0) (pos 0))
plain_help_key key.MouseScrollUp = Scroll (scrolling.Delta (negsuc 0) (pos 0))
plain_help_key key.PageDown = Scroll scrolling.PageDown
plain_help_key key.PageUp = Scroll scrolling.PageUp
plain_help_key key.Esc = Leave
plain_help_key (key.F number) = help_function_key number
plain_help_key _ = Other

abbrev pub help_key : Input → HelpKey
help_key input = if quits input then Quit else plain_help_key input.key

-- whether a scroll goes down so far that the window would have blank rows after the last of this number of lines
abbrev pub passes_last_rows : ViewportState → ViewportState → ℕ → Bool
passes_last_rows old new count = nat_lt old.row new.row && nat_lt (count - old.height) new.row

abbrev pub scrolls_past_end : State → Scrolling → Bool
scrolls_past_end help scrolling =
    passes_last_rows help.drawing.viewport (scrolled_by help.drawing.viewport scrolling) (length (lines help.document.text))

-- instead the last line comes into view, as the last row of the window
abbrev pub IsHelpScrolled : Bool → Scrolling → State → State → Type 0
IsHelpScrolled true scrolling help new = IsMoved help Bottom new
IsHelpScrolled false scrolling help new = IsScrolled help scrolling new

-- the help's text area after a key
abbrev pub IsHelpAfter : HelpKey → State → State → Type 0
IsHelpAfter (Scroll scrolling) help new = IsHelpScrolled (scrolls_past_end help scrolling) scrolling help new
IsHelpAfter _ help new = new ≡ help
