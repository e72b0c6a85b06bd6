-- The mentions of a composer.
use Rattle.std.specs.Prelude.{ℕ, List, [], ◌∷◌, Contains, codes}
use Rattle.textarea_document.specs.Covered.{covered}
use Rattle.tui_textarea.specs.State.{State}

-- the names that can be mentioned, of ASCII characters
abbrev pub names : List (List ℕ)
names = codes "@Ada" ∷ codes "@Alan" ∷ codes "@Grace" ∷ []

-- each atomic range covers a whole name, one that is there or that is remembered for undo and redo
abbrev pub AreWhole : State → Type 0
AreWhole state = (characters : List ℕ) → Contains (covered state.document) characters → Contains names characters
