-- The order of matches, the one that follows another, and a walk through all.
use Rattle.std.specs.Prelude.{◌≡◌, ◌++◌, ◌∷◌, Bool, true, false, List, [], All, is_some, slice_get}
use Rattle.textarea_text.specs.Place.{Place}
use Rattle.textarea_search.specs.Starts.{is_later}
use Rattle.tui_textarea.specs.Moves.{gone_to}
use Rattle.textarea_data.specs.declared.cursor.CursorUnit.{CursorUnit}
use Rattle.textarea_data.specs.declared.cursor.CursorUnit.TheVariants as unit
use Rattle.textarea_data.specs.declared.range.AtomicCursorBias.TheVariants.{Forward}
use Rattle.tui_textarea.specs.Search.{after_search, match_starts, next_match}
use Rattle.tui_textarea.specs.State.{State}
use Rattle.tui_textarea.specs.Units.{IsAtStop, settled}

-- each of the positions is before all that follow it in the list
abbrev pub AreInTextOrder : List Place → Type 0
AreInTextOrder [] = Unit {0}
AreInTextOrder (place ∷ rest) = All (λ other. is_later place false other ≡ true) rest × AreInTextOrder rest

-- With the cursor at the start of a match, the next match is the first of those after it or, after
-- the last one, the first of the text.
abbrev pub LeadsToMatchAfter : State → Type 0
LeadsToMatchAfter state =
    (front back : List Place) → match_starts state ≡ front ++ state.document.cursor ∷ back
    → next_match state false ≡ slice_get (back ++ (front ++ state.document.cursor ∷ [])) 0

-- With the cursor at the text's start, the next match there or after it is the first of the text.
abbrev pub LeadsToFirstMatch : State → Type 0
LeadsToFirstMatch state = state.document.cursor ≡ (0, 0) → next_match state true ≡ slice_get (match_starts state) 0

-- A walk through the matches that start at these positions: it has passed the first of them, and
-- goes on from the cursor, which is at the next one, or has passed all.
abbrev pub IsPast : List Place → Bool → Place → List Place → Type 0
IsPast passed false cursor starts = passed ≡ starts
IsPast passed true cursor starts = (back : List Place) × (starts ≡ passed ++ cursor ∷ back)

-- a walk through the matches that start at these positions, as far as the state: which it has
-- passed, and whether it goes on
pub record HasPassed (starts passed : List Place) (goes_on : Bool) (state : State) : Type 0 where
  pub same : match_starts state ≡ starts
  pub past : IsPast passed goes_on state.document.cursor starts

-- a search leaves the cursor at the start of the match: the cursor goes by characters, or no match begins
-- inside an atomic range
abbrev pub StaysAtStartsBy : CursorUnit → State → Type 0
StaysAtStartsBy unit.Character state = Unit {0}
StaysAtStartsBy unit.Cluster state = All (IsAtStop state.document) (match_starts state)

abbrev pub StaysAtStarts : State → Type 0
StaysAtStarts state = StaysAtStartsBy state.settings.cursor_unit state

-- A walk goes on by a search. It then has passed the match at the cursor too, and goes on if the
-- search led to a position after it.
abbrev pub GoesThroughMatches : State → Type 0
GoesThroughMatches state =
    (starts passed : List Place) (new : State) → StaysAtStarts state → HasPassed starts passed true state → new ≡ settled Forward (after_search state (next_match state false))
    → HasPassed starts (passed ++ state.document.cursor ∷ []) (is_later state.document.cursor false new.document.cursor) new

-- A walk begins with a search from the text's start, to which the cursor has gone, that may stay
-- there. It goes on if that found a match.
abbrev pub BeginsWithFirst : State → Type 0
BeginsWithFirst state =
    (gone new : State) (found : Bool) → StaysAtStarts state → gone ≡ settled Forward (gone_to state (0, 0)) → found ≡ is_some (next_match gone true)
    → new ≡ settled Forward (after_search gone (next_match gone true)) → HasPassed (match_starts state) [] found new
