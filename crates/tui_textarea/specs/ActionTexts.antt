-- What actions leave: the state, made or out of memory; the symbols of the text; what ranges cover;
-- and the state after inputs at their times.
use Rattle.std.specs.Prelude.{◌≡◌, ◌⊎◌, ℕ, Bool, true, List, [], ◌∷◌, All, if◌then◌else◌}
use Rattle.std.specs.Duration.{as_nanos}
use Rattle.std.specs.declared.time.Duration.{Duration}
use Rattle.textarea_data.specs.declared.input.Input.{Input}
use Rattle.textarea_document.specs.Covered.{CoversNoMore, covered, covered_in}
use Rattle.textarea_text.specs.Text.{Symbol, Break, Character}
use Rattle.textarea_calls.specs.declared.action.Action.{Action}
use Rattle.textarea_calls.specs.declared.action.Action.TheVariants as action
use Rattle.tui_textarea.specs.Edits.{breaks_line}
use Rattle.tui_textarea.specs.Guards.{admitted_over_selection}
use Rattle.tui_textarea.specs.Input.{IsAfterAction, IsInputOutOfMemory, asked_by}
use Rattle.tui_textarea.specs.State.{State}

-- the state that an action leaves: it was made, or it ran out of memory
abbrev pub IsLeftByAction : State → Action → State → Type 0
IsLeftByAction old asked new = IsAfterAction old asked new ⊎ IsInputOutOfMemory old asked new

-- ---- symbols

-- each symbol of the text passes the test
abbrev pub AllPass : (Symbol → Bool) → List Symbol → Type 0
AllPass test text = All (λ symbol. test symbol ≡ true) text

-- Each symbol that the action inserts passes the test: the character, or the break that it means; a
-- break; a tab, as one character or as spaces; the yanked text. What an undo or a redo inserts isn't
-- known by the action. Other actions insert nothing.
abbrev pub InsertsPassing : (Symbol → Bool) → State → Action → Type 0
InsertsPassing test state (action.InsertChar c) = (if breaks_line c then test Break else test (Character c)) ≡ true
InsertsPassing test state action.InsertNewline = test Break ≡ true
InsertsPassing test state action.InsertTab = (test (Character 9) ≡ true) × (test (Character 32) ≡ true)
InsertsPassing test state action.Paste = AllPass test (admitted_over_selection state state.yank)
InsertsPassing test state action.Undo = ⊥
InsertsPassing test state action.Redo = ⊥
InsertsPassing test state other = Unit {0}

-- ---- what ranges cover

-- the characters of each range, in the order of the text
abbrev pub covered_texts : State → List (List ℕ)
covered_texts state = covered_in state.document.text state.document.ranges

-- the same, and those of each range that is remembered for undo and redo
abbrev pub known_texts : State → List (List ℕ)
known_texts state = covered state.document

-- what a range of the new state covers, one that is there or is remembered, one of the old state covered
abbrev pub CoversAsBefore : State → State → Type 0
CoversAsBefore old new = CoversNoMore old.document new.document

-- ---- inputs at their times

-- the input, made at its time, leads from the old state to the new one
abbrev pub IsAfterTimed : State → Input × Duration → State → Type 0
IsAfterTimed old timed new = IsAfterAction (record old { time = as_nanos timed.1 }) (asked_by timed.0) new

-- the inputs, one after another and each at its time, lead from the old state to the new one
abbrev pub IsAfterAllTimed : State → List (Input × Duration) → State → Type 0
IsAfterAllTimed old [] new = new ≡ old
IsAfterAllTimed old (timed ∷ rest) new = (between : State) × IsAfterTimed old timed between × IsAfterAllTimed between rest new
