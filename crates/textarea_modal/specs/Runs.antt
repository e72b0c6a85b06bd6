-- Runs of a modal editor, as runs of the calls of its inputs.
use Rattle.std.specs.Prelude.{◌≡◌, ◌≤◌, ◌<◌, ℕ, ◌+◌, Bool, true, false, List, length, take, None}
use Rattle.std.specs.List.{list_any}
use Rattle.textarea_calls.specs.Edits.{edits}
use Rattle.textarea_data.specs.declared.input.Input.{Input}
use Rattle.textarea_screen.specs.declared.screen.buffer.Buffer.{Buffer}
use Rattle.tui_textarea.specs.Run.{Run, StopsAt}
use Rattle.textarea_calls.specs.declared.answer.Answer.{Answer}
use Rattle.textarea_calls.specs.declared.call.Call.{Call}
use Rattle.tui_textarea.specs.State.{State}
use Rattle.textarea_modal.specs.Course.{course}
use Rattle.textarea_modal.specs.declared.mode.Mode.{Mode}
use Rattle.textarea_modal.specs.declared.modal.ModalStop.{ModalStop}
use Rattle.textarea_modal.specs.declared.modal.ModalStop.TheVariants.{End, Quit, Memory}

-- the run of all the calls has some results, ends in the new state, and leaves any buffer unchanged;
-- if none of them edits, the text stays
pub record AllMade (old : State) (calls : List Call) (new : State) : Type 0 where
  pub answers : List Answer
  pub run : (buffer : Buffer) → Run old buffer calls answers None new buffer
  pub text : list_any edits calls ≡ false → new.document.text ≡ old.document.text

-- the run ends at the call of this index, which runs out of memory and leaves the new state
pub record RunsOutAt (old : State) (calls : List Call) (index : ℕ) (new : State) : Type 0 where
  pub within : index < length calls
  pub answers : List Answer
  pub run : (buffer : Buffer) → StopsAt old buffer calls answers index new buffer

-- the run ends at one of the calls, which runs out of memory
pub record OneRunsOut (old : State) (calls : List Call) (new : State) : Type 0 where
  pub index : ℕ
  pub ran_out : RunsOutAt old calls index new

-- the inputs' calls are all made; mode, number of used inputs and reason are those of the table
pub record Finishes (old : State) (from : Mode) (inputs : List Input) (new : State) (to : Mode) (taken : ℕ) (quits : Bool) : Type 0 where
  pub made : AllMade old (course from inputs).calls new
  pub mode : to ≡ (course from inputs).mode
  pub number : taken ≡ (course from inputs).taken
  pub quit : quits ≡ (course from inputs).quits

-- a call of the input at this index runs out of memory; the mode is the one before the input
pub record RunsOut (old : State) (from : Mode) (inputs : List Input) (new : State) (to : Mode) (taken : ℕ) : Type 0 where
  pub within : taken < length inputs
  pub none_quit : (course from (take taken inputs)).quits ≡ false
  pub mode : to ≡ (course from (take taken inputs)).mode
  pub index : ℕ
  pub after : length (course from (take taken inputs)).calls ≤ index
  pub ahead : index < length (course from (take (taken + 1) inputs)).calls
  pub ran_out : RunsOutAt old (course from inputs).calls index new

-- the outcome of the inputs from a state and a mode: state, mode, number of used inputs, reason
abbrev pub EndsAs : State → Mode → List Input → State → Mode → ℕ → ModalStop → Type 0
EndsAs old from inputs new to taken End = Finishes old from inputs new to taken false
EndsAs old from inputs new to taken Quit = Finishes old from inputs new to taken true
EndsAs old from inputs new to taken Memory = RunsOut old from inputs new to taken
