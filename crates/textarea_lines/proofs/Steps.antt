-- A cursor moves to one position or none, up or down, in a text with its layout.
use Rattle.std.proofs.lemmas.Grind.{common_steps}
use Rattle.std.proofs.Common.{◌≡◌, ℕ, List, Option, None, Some, MatchOption, ap, refl, arith}
use Rattle.textarea_text.specs.Place.{Place}
use Rattle.textarea_text.specs.Text.{lines}
use Rattle.textarea_wrap.specs.RowsView.{RowsView}
use Rattle.textarea_screen_map.specs.declared.layout.VisualPosition.{VisualPosition}
use Rattle.textarea_screen_map.specs.declared.layout.Wrapping.{Wrapping}
use Rattle.textarea_screen_map.specs.LineRows.{AreRowsOf}
use Rattle.textarea_screen_map.specs.VisualPositions.{IsAbove, IsBelow, IsInFirstRow, IsInLastRow, IsVisualPosition}
use Rattle.textarea_lines.specs.TextRows.{HasLayout, OfRows}
use Rattle.textarea_lines.specs.TextLayout.{TextAndLayout}
use Rattle.textarea_lines.proofs.Stores.{tab_len_of}

-- ---- steps, and positions without a step, in rows at some tab stops

-- a position without a step, and a step from one position to another
abbrev pub Edge : Type 1
Edge = ℕ → List (List ℕ) → List RowsView → Place → Type 0

abbrev pub Step : Type 1
Step = ℕ → List (List ℕ) → List RowsView → Place → Place → Type 0

-- a position is in one visual row at one column
abbrev pub HasOneVisualPosition : Type 0
HasOneVisualPosition =
    (wrapping : Wrapping) (lines : List (List ℕ)) (rows : List RowsView) (place : Place) (visual other : VisualPosition)
    → AreRowsOf wrapping lines rows → IsVisualPosition wrapping.tab_len lines rows place visual → IsVisualPosition wrapping.tab_len lines rows place other → visual ≡ other

-- the step leads from a position to only one position
abbrev pub LeadsToOne : Step → Type 0
LeadsToOne Goes =
    (wrapping : Wrapping) (lines : List (List ℕ)) (rows : List RowsView) (place target other : Place) → AreRowsOf wrapping lines rows
    → Goes wrapping.tab_len lines rows place target → Goes wrapping.tab_len lines rows place other → target ≡ other

-- there is no step from such a position
abbrev pub EndsAt : Edge → Step → Type 0
EndsAt Ends Goes = (wrapping : Wrapping) (lines : List (List ℕ)) (rows : List RowsView) (place target : Place) → AreRowsOf wrapping lines rows → Ends wrapping.tab_len lines rows place → Goes wrapping.tab_len lines rows place target → ⊥

pub none_above : HasOneVisualPosition → EndsAt IsInFirstRow IsAbove
none_above once w lines rows place target cached first h =
    omega (arith, ap (λ (visual : VisualPosition). visual.row) (once w lines rows place first.0 h.visual cached first.1 h.visual_position), first.2, h.not_first)

pub none_below : HasOneVisualPosition → EndsAt IsInLastRow IsBelow
none_below once w lines rows place target cached final h =
    omega (arith, ap (λ (visual : VisualPosition). visual.row) (once w lines rows place final.0 h.visual cached final.1 h.visual_position), final.2, h.near.row)

-- ---- what is found

-- two positions are equal; a position and none contradict each other
one_target :
    (Nothing : Type 0) (Goes : Place → Type 0) (found other : Option Place) → ((target : Place) → Nothing → Goes target → ⊥)
    → ((target more : Place) → Goes target → Goes more → target ≡ more) → MatchOption found Nothing Goes → MatchOption other Nothing Goes → found ≡ other
one_target Nothing Goes None None ends one h k = refl
one_target Nothing Goes None (Some target) ends one h k = absurd (ends target h k)
one_target Nothing Goes (Some target) None ends one h k = absurd (ends target k h)
one_target Nothing Goes (Some target) (Some more) ends one h k = ap Some (one target more h k)

-- the result of a look-up from a position, in the rows of a text with its layout
abbrev pub Finds : Edge → Step → TextAndLayout → Place → Option Place → Type 0
Finds Ends Goes text_layout place found =
    OfRows text_layout (λ (rows : List RowsView). MatchOption found (Ends text_layout.layout.settings.tab_len (lines text_layout.text) rows place) (Goes text_layout.layout.settings.tab_len (lines text_layout.text) rows place))

pub finds_once :
    (Ends : Edge) (Goes : Step) (text_layout : TextAndLayout) (place : Place) (found other : Option Place)
    → ((rows others : List RowsView) → HasLayout text_layout rows → HasLayout text_layout others → rows ≡ others) → EndsAt Ends Goes → LeadsToOne Goes
    → Finds Ends Goes text_layout place found → Finds Ends Goes text_layout place other → found ≡ other
finds_once Ends Goes text_layout place found other one_list ends one h k = grind (arith, common_steps, tab_len_of, one_target)
