-- Steps of an editor, one after another.
use Rattle.std.specs.Prelude.{◌≡◌, ◌≢◌, ◌⊎◌, is_some, List, [], ◌∷◌, ◌++◌}
use Rattle.std.specs.declared.time.Duration.{Duration}
use Rattle.textarea_calls.specs.declared.call.Call.{Call}
use Rattle.textarea_calls.specs.declared.call.Call.TheVariants.{SetNow}
use Rattle.textarea_editor.specs.Controls.{IsAfterEvent}
use Rattle.textarea_editor.specs.Draft.{FailsIn, FailsInAsked, Makes, MakesSome}
use Rattle.textarea_editor.specs.Editor.{MayQuit}
use Rattle.textarea_editor.specs.Effects.{Carries}
use Rattle.textarea_editor.specs.EventCalls.{IsEvent, is_selecting}
use Rattle.textarea_editor.specs.EventEffects.{IsEventEffect}
use Rattle.textarea_editor.specs.Names.{KeepsNames, NamesByEvent, names_of}
use Rattle.textarea_editor.specs.Sizes.{KeepsShown, ShownByEvent, shown_by}
use Rattle.textarea_editor.specs.declared.draft.Draft.{Draft}
use Rattle.textarea_editor.specs.declared.editor.Editor.{Editor}
use Rattle.textarea_editor.specs.declared.effect.Effect.{Effect}
use Rattle.textarea_editor.specs.declared.effect.Effect.TheVariants.{Nothing}
use Rattle.textarea_editor.specs.declared.message.Message.TheVariants.{Memory}
use Rattle.textarea_terminal.specs.declared.input.event.Event.{Event}
use Rattle.tui_textarea.specs.Search.{match_count}

-- the calls of an event at a time: the time is set, and then come those of the table
pub record IsTimed (old : Editor) (now : Duration) (event : Event) (calls : List Call) : Type 0 where
  pub later : List Call
  pub asked : IsEvent old old.draft.area now event later
  pub calls_are : calls ≡ SetNow now ∷ later

-- the calls of an event were made, and what decides the next event, what the program does, the file's name, the size
-- and the help are as the tables say
pub record Succeeds (old : Editor) (now : Duration) (event : Event) (effect : Effect) (new : Editor) : Type 0 where
  pub makes : MakesSome (IsTimed old now event) old.draft new.draft
  pub controls : IsAfterEvent old.controls (is_some old.name) new.draft.is_changed old.draft.area.document.cursor (match_count old.draft.area) old.field now event new.controls
  pub effect_is : IsEventEffect old.controls old.name new.draft.is_changed (is_selecting old.draft.area) old.field event effect
  pub names : NamesByEvent old.controls.focus event old.field (names_of old) (names_of new)
  pub shown : ShownByEvent old.controls.focus event (shown_by old) (shown_by new)

-- memory ran out in the calls of an event, or after the first before the others were known
abbrev pub FailsTimed : Editor → Duration → Event → Draft → Type 0
FailsTimed old now event draft = FailsIn old.draft (SetNow now ∷ []) draft ⊎ FailsInAsked (IsTimed old now event) old.draft draft

-- memory ran out so: the status row shows it, and the program does nothing
pub record FailsAt (old : Editor) (now : Duration) (event : Event) (effect : Effect) (new : Editor) : Type 0 where
  pub fails : FailsTimed old now event new.draft
  pub kept : new.controls ≡ old.controls
  pub names : KeepsNames (names_of old) (names_of new)
  pub shown : KeepsShown (shown_by old) (shown_by new)
  pub message : new.message ≡ Memory
  pub silent : effect ≡ Nothing

-- a step by an event: its calls, and its effect; the file's line end stays. The program ends without
-- a question only if the text then counts as unchanged
pub record IsStep (old : Editor) (now : Duration) (event : Event) (effect : Effect) (new : Editor) : Type 0 where
  pub led : Succeeds old now event effect new ⊎ FailsAt old now event effect new
  pub carries : Carries (MayQuit old new.draft) new.draft.area new.line_end effect
  pub end : new.line_end ≡ old.line_end

-- an event at a time, its effect, and the editor after it
pub record Moment : Type 0 where
  pub now : Duration
  pub event : Event
  pub effect : Effect
  pub after : Editor

-- the events lead, one after another, from the old editor to the new one
abbrev pub AreSteps : Editor → List Moment → Editor → Type 0
AreSteps old [] new = new ≡ old
AreSteps old (this ∷ later) new =
    IsStep old this.now this.event this.effect this.after × AreSteps this.after later new

-- the status row shows after none of the events that memory ran out
abbrev pub NoneFails : List Moment → Type 0
NoneFails [] = Unit {0}
NoneFails (this ∷ later) = (this.after.message ≢ Memory) × NoneFails later

-- the calls of the events, one after another, each in the state after those before it
abbrev pub AreCallsOfMoments : Editor → List Moment → List Call → Type 0
AreCallsOfMoments old [] calls = calls ≡ []
AreCallsOfMoments old (this ∷ later) calls =
    (first : List Call) × (rest : List Call) × IsTimed old this.now this.event first
    × AreCallsOfMoments this.after later rest × (calls ≡ first ++ rest)

-- calls of the events, one after another, lead from the old editor's draft to the new one's
pub record MakesCallsOf (old : Editor) (moments : List Moment) (new : Editor) : Type 0 where
  pub calls : List Call
  pub are : AreCallsOfMoments old moments calls
  pub makes : Makes old.draft calls new.draft
