-- What each part of a step does: the calls that it makes, its effect, and what the next event is for.
use Rattle.std.specs.Prelude.{◌≡◌, List, Result, OnErr, OnOk, IfOk}
use Rattle.std.specs.declared.alloc.AllocError.{AllocError}
use Rattle.textarea_calls.specs.declared.call.Call.{Call}
use Rattle.textarea_editor.specs.Draft.{FailsIn, FailsInSome, Makes, MakesSome}
use Rattle.textarea_editor.specs.Editor.{MayQuit}
use Rattle.textarea_editor.specs.Effects.{Carries}
use Rattle.textarea_editor.specs.Names.{KeepsNames, Names, names_of}
use Rattle.textarea_editor.specs.Sizes.{KeepsShown, Shown, shown_by}
use Rattle.textarea_editor.specs.declared.controls.Controls.{Controls}
use Rattle.textarea_editor.specs.declared.draft.Draft.{Draft}
use Rattle.textarea_editor.specs.declared.editor.Editor.{Editor}
use Rattle.textarea_editor.specs.declared.effect.Effect.{Effect}

-- the text is as one of these says, if memory sufficed or ran out; then the effect, what decides the next event, the
-- names and the screen are as these say, or all but the effect are as before. What the effect carries is of the new text
pub record IsDone (old : Editor) (IsMade IsFailed : Draft → Type 0) (IsEffect : Effect → Type 0) (IsNext : Controls → Type 0) (IsNamed : Names → Type 0) (IsShown : Shown → Type 0)
    (result : Result Effect AllocError) (new : Editor) : Type 0 where
  pub ok : OnOk result (IsMade new.draft)
  pub err : OnErr result (IsFailed new.draft)
  pub effect : IfOk result IsEffect
  pub carries : IfOk result (Carries (MayQuit old new.draft) new.draft.area new.line_end)
  pub end : new.line_end ≡ old.line_end
  pub controls : OnOk result (IsNext new.controls)
  pub kept : OnErr result (new.controls ≡ old.controls)
  pub names : OnOk result (IsNamed (names_of new))
  pub names_kept : OnErr result (KeepsNames (names_of old) (names_of new))
  pub shown : OnOk result (IsShown (shown_by new))
  pub shown_kept : OnErr result (KeepsShown (shown_by old) (shown_by new))

-- by calls of this kind
abbrev pub IsStepOf : Editor → (List Call → Type 0) → (Effect → Type 0) → (Controls → Type 0) → Result Effect AllocError → Editor → Type 0
IsStepOf old IsAsked IsEffect IsNext result new = IsDone old (MakesSome IsAsked old.draft) (FailsInSome IsAsked old.draft) IsEffect IsNext (KeepsNames (names_of old)) (KeepsShown (shown_by old)) result new

-- by calls of this kind, and the names are as this says
abbrev pub IsNamingStepOf : Editor → (List Call → Type 0) → (Effect → Type 0) → (Controls → Type 0) → (Names → Type 0) → Result Effect AllocError → Editor → Type 0
IsNamingStepOf old IsAsked IsEffect IsNext IsNamed result new =
    IsDone old (MakesSome IsAsked old.draft) (FailsInSome IsAsked old.draft) IsEffect IsNext IsNamed (KeepsShown (shown_by old)) result new

-- by exactly these calls
abbrev pub IsStepBy : Editor → List Call → (Effect → Type 0) → (Controls → Type 0) → Result Effect AllocError → Editor → Type 0
IsStepBy old calls IsEffect IsNext result new = IsDone old (Makes old.draft calls) (FailsIn old.draft calls) IsEffect IsNext (KeepsNames (names_of old)) (KeepsShown (shown_by old)) result new

-- the text stays as it is
abbrev pub IsUntouched : Editor → Draft → Type 0
IsUntouched old draft = draft ≡ old.draft

-- without a call
abbrev pub IsStepBeside : Editor → (Effect → Type 0) → (Controls → Type 0) → Result Effect AllocError → Editor → Type 0
IsStepBeside old IsEffect IsNext result new = IsDone old (IsUntouched old) (IsUntouched old) IsEffect IsNext (KeepsNames (names_of old)) (KeepsShown (shown_by old)) result new

-- without a call, and the names are as this says
abbrev pub IsNamingStepBeside : Editor → (Effect → Type 0) → (Controls → Type 0) → (Names → Type 0) → Result Effect AllocError → Editor → Type 0
IsNamingStepBeside old IsEffect IsNext IsNamed result new = IsDone old (IsUntouched old) (IsUntouched old) IsEffect IsNext IsNamed (KeepsShown (shown_by old)) result new

-- the next event is for the same
abbrev pub IsKept : Editor → Controls → Type 0
IsKept old controls = controls ≡ old.controls
