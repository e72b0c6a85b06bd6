-- What inputs leave.
use Rattle.std.specs.Prelude.{ℕ, ◌≡◌, ◌<◌, ◌≤◌, true, false, Option, MatchOption}
use Rattle.textarea_calls.specs.declared.action.Action.{Action}
use Rattle.textarea_data.specs.declared.input.Input.{Input}
use Rattle.tui_textarea.specs.Input.{ActMayRunOutOfMemory, IsAfterAction, IsInputOutOfMemory, action_flag}
use Rattle.textarea_c.specs.declared.editor.Editor.{Editor}
use Rattle.textarea_c.specs.Calls.{with_area}

-- the call of an action: the status says whether the text changed, or that memory ran out, which it
-- does only for an action whose call may need memory
abbrev pub Acts : Action → ℕ → Editor → Editor → Type 0
Acts action status a b =
    (b ≡ with_area a b.area) × (status < 2 → IsAfterAction a.area action b.area)
    × (2 ≤ status → (status ≡ 2) × IsInputOutOfMemory a.area action b.area × ActMayRunOutOfMemory a.area action)
    × (status ≡ 0 → action_flag a.area action ≡ true) × (status ≡ 1 → action_flag a.area action ≡ false)

-- the call of an input, which may be invalid
abbrev pub ActsBy : Option Input → (Input → Action) → ℕ → Editor → Editor → Type 0
ActsBy input asked status a b = MatchOption input ((status ≡ 6) × (b ≡ a)) (λ i. Acts (asked i) status a b)
