-- Page Up at the start of the text.
use Rattle.std.specs.Prelude.{◌&&◌, nat_le, Bool, true, false, List, [], ◌∷◌}
use Rattle.textarea_calls.specs.declared.action.Action.{Action}
use Rattle.textarea_calls.specs.declared.action.Action.TheVariants as action
use Rattle.textarea_calls.specs.declared.call.Call.{Call}
use Rattle.textarea_calls.specs.declared.call.Call.TheVariants as call
use Rattle.textarea_data.specs.declared.cursor.CursorMove.TheVariants.{Top}
use Rattle.textarea_data.specs.declared.input.Input.{Input}
use Rattle.textarea_data.specs.declared.scroll.Scrolling.TheVariants.{PageUp}
use Rattle.textarea_modal.specs.Table.{passed_on}
use Rattle.textarea_view.specs.Viewport.{ViewportState}
use Rattle.tui_textarea.specs.Input.{asked_by}

-- whether an action scrolls up by a page
abbrev pub is_page_up : Action → Bool
is_page_up (action.ScrollWithShift PageUp shift) = true
is_page_up other = false

-- whether an input scrolls up by a page, and the first row comes into view, or is there already
abbrev pub reaches_start : ViewportState → Input → Bool
reaches_start viewport input = is_page_up (asked_by input) && nat_le viewport.row viewport.height

-- the cursor then goes on to the first line
abbrev pub start_calls : Bool → List Call
start_calls true = call.Move Top ∷ []
start_calls false = []

-- an input is passed to the text area
abbrev pub input_calls : ViewportState → Input → List Call
input_calls viewport input = passed_on input ∷ start_calls (reaches_start viewport input)
