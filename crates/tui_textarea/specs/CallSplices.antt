-- The splices of any call and of a run, and which of them are of an undo or a redo.
use Rattle.std.specs.Prelude.{◌≡◌, ◌⊎◌, List, [], ◌∷◌, ◌++◌, map, Option, None, Some}
use Rattle.textarea_text.specs.Splice.{Splice}
use Rattle.textarea_calls.specs.declared.action.Action.TheVariants as action
use Rattle.textarea_screen.specs.declared.screen.buffer.Buffer.{Buffer}
use Rattle.textarea_document.specs.Splices.{selected_splices}
use Rattle.tui_textarea.specs.Calls.{call_splices}
use Rattle.textarea_calls.specs.declared.action.Action.{Action}
use Rattle.tui_textarea.specs.Input.{asked_by, asked_without_shortcuts, call_of_action}
use Rattle.tui_textarea.specs.State.{State}
use Rattle.tui_textarea.specs.Run.{CallLeads}
use Rattle.tui_textarea.specs.CallResults.{CallResult}
use Rattle.textarea_calls.specs.declared.call.Call.{Call}
use Rattle.textarea_calls.specs.declared.call.Call.TheVariants.{Undo, Redo, Input, InputWithoutShortcuts}

-- those of the call, if there is one
abbrev pub any_splices : State → Option Call → List Splice
any_splices state None = []
any_splices state (Some call) = call_splices state call

-- the splices of an input with this action: those of the action's call
abbrev pub splices_by : State → Action → List Splice
splices_by state asked = any_splices state (call_of_action asked)

-- the splices of any call in this state; of an input, those of its action
abbrev pub splices_of : State → Call → List Splice
splices_of state (Input input) = splices_by state (asked_by input.now)
splices_of state (InputWithoutShortcuts input) = splices_by state (asked_without_shortcuts input.now)
splices_of state call = call_splices state call

-- a splice of a call: of an undo or a redo, or of any other call, an edit
pub data CallSplice : Type 0 where
  OfUndoOrRedo : Splice → CallSplice
  OfEdit : Splice → CallSplice

-- the splice itself
abbrev pub underlying : CallSplice → Splice
underlying (OfUndoOrRedo splice) = splice
underlying (OfEdit splice) = splice

-- the splices of an input with this action, as those of an undo or a redo, or of an edit
abbrev pub marked_by : Action → List Splice → List CallSplice
marked_by action.Undo splices = map OfUndoOrRedo splices
marked_by action.Redo splices = map OfUndoOrRedo splices
marked_by asked splices = map OfEdit splices

-- the splices of any call in this state, as those of an undo or a redo, or of an edit
abbrev pub marked_splices : State → Call → List CallSplice
marked_splices state Undo = map OfUndoOrRedo (splices_of state Undo)
marked_splices state Redo = map OfUndoOrRedo (splices_of state Redo)
marked_splices state (Input input) = marked_by (asked_by input.now) (splices_of state (Input input))
marked_splices state (InputWithoutShortcuts input) = marked_by (asked_without_shortcuts input.now) (splices_of state (InputWithoutShortcuts input))
marked_splices state call = map OfEdit (splices_of state call)

-- the fact is true of the splices of a call that ran out of memory: none, or the selection's
-- removal
abbrev pub OfSplicesOutOfMemory : State → (List Splice → Type 0) → Type 0
OfSplicesOutOfMemory state Fact = Fact [] ⊎ Fact (selected_splices state.document)

-- the calls lead with these results from the old state and buffer to the new ones, and these are
-- their splices: those of each call in the state that it is made in, one call's after another's
abbrev pub LeadsBy : State → Buffer → List Call → List CallResult → List CallSplice → State → Buffer → Type 0
LeadsBy old buffer [] [] splices new displayed = (splices ≡ []) × (new ≡ old) × (displayed ≡ buffer)
LeadsBy old buffer (call ∷ calls) (returned ∷ results) splices new displayed =
    (between : State) × (screen : Buffer) × (later : List CallSplice) × (splices ≡ marked_splices old call ++ later)
    × CallLeads old buffer call returned between screen × LeadsBy between screen calls results later new displayed
LeadsBy old buffer calls results splices new displayed = ⊥
