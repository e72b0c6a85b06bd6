-- A text as it is saved.
use Rattle.std.specs.Prelude.{ℕ, List}
use Rattle.textarea_text.specs.Fragment.{fragment_text}
use Rattle.tui_textarea.specs.State.{State}

-- the text as it is written to a file
abbrev pub file_text : State → List ℕ
file_text state = fragment_text state.document.text
