-- The mentions of a note.
use Rattle.std.specs.Prelude.{ℕ, List, [], ◌∷◌, ◌++◌, Contains}
use Rattle.textarea_data.specs.declared.range.AtomicRange.{AtomicRange}
use Rattle.tui_textarea.specs.ActionTexts.{covered_texts, known_texts}
use Rattle.tui_textarea.specs.State.{State}

-- the names: the characters of each range, in the order of the text
abbrev pub names_in : State → List (List ℕ)
names_in state = covered_texts state

-- these, and the names of those mentions that an undo or a redo gives back
abbrev pub known_names : State → List (List ℕ)
known_names state = known_texts state

-- each name that the new state knows, the old one knows
abbrev pub HasOnlyNamesOf : State → State → Type 0
HasOnlyNamesOf old new = (name : List ℕ) → Contains (known_names new) name → Contains (known_names old) name

-- the ranges of the mentions, and one more
abbrev pub with_mention : State → AtomicRange → List AtomicRange
with_mention state range = state.document.ranges ++ range ∷ []
