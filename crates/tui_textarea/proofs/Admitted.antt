-- What is inserted of a text in place of the selected one.
use Rattle.std.proofs.Common.{◌≡◌, ◌∙◌, ◌+◌, ◌-◌, ◌*◌, ◌≤◌, ◌<◌, Bool, true, false, ℕ, List, [], ◌∷◌, Option, None, Some, ap, arith, is_some, length, min, refl, sym, take_all}
use Rattle.std.proofs.Math.Bool.{or-false}
use Rattle.std.proofs.Math.Seq.{take-nil}
use Rattle.std.proofs.lemmas.Bool.Decides.{nat_tests}
use Rattle.std.specs.Option.{MatchOption}
use Rattle.textarea_clusters.specs.Edges.{edge_back}
use Rattle.textarea_clusters.proofs.EdgeLemmas.{edge_at_end, edge_back_is}
use Rattle.textarea_document.specs.Selection.{is_selected}
use Rattle.textarea_text.specs.Between.{symbols_between}
use Rattle.textarea_text.specs.Place.{Place, index_of, line_of, place_of}
use Rattle.textarea_text.specs.Text.{Symbol, Break, Character, lines, on_first}
use Rattle.textarea_text.proofs.PlaceLemmas.{is_at_end}
use Rattle.textarea_text.proofs.TextPlaces.{joined-lines}
use Rattle.tui_textarea.specs.Edits.{inserts_text}
use Rattle.tui_textarea.specs.Fitting.{beginning, cluster_end, fits_each, fits_for, fitting_beside, fitting_selection, is_allowed}
use Rattle.tui_textarea.specs.Guards.{admitted_over_selection}
use Rattle.tui_textarea.specs.Selection.{unselected}
use Rattle.tui_textarea.specs.State.{State}
use Rattle.tui_textarea.proofs.Guarded.{admitted_none}

-- ---- no symbol

fitting_none : (maximum : Option ℕ) (others : ℕ) → fitting_beside maximum others [] ≡ []
fitting_none None others = refl
fitting_none (Some most) others = take-nil _

pub admitted_over_none : (state : State) (symbols : List Symbol) → symbols ≡ [] → admitted_over_selection state symbols ≡ []
admitted_over_none state symbols none =
    ap (fitting_selection state) (admitted_none state symbols none) ∙ fitting_none state.settings.max_chars (length (unselected state).document.text)

-- so only a selected text is removed
pub inserts_none : (state : State) (symbols : List Symbol) → symbols ≡ [] → inserts_text state (admitted_over_selection state symbols) ≡ is_selected state.document
inserts_none state symbols none =
    ap (inserts_text state) (admitted_over_none state symbols none) ∙ or-false (is_selected state.document)

-- in place of no stretch
pub fits_none : (state : State) (stretches : List (ℕ × ℕ)) (symbols : List Symbol) → stretches ≡ [] → fits_each state stretches symbols ≡ true
fits_none state stretches symbols none =
    let nothing : 0 * length symbols ≡ 0 = omega arith in
    ap (λ (s : List (ℕ × ℕ)). fits_each state s symbols) none ∙ ap (fits_for state 0) nothing

-- ---- without a maximum

pub fits_whole : (maximum : Option ℕ) (others : ℕ) (symbols : List Symbol) → is_some maximum ≡ false → fitting_beside maximum others symbols ≡ symbols
fits_whole None others symbols none = refl
fits_whole (Some most) others symbols none = absurd cc

-- ---- all of it fits

on_first_some : (c : ℕ) (rows : List (List ℕ)) → 0 < length (on_first c rows)
on_first_some c [] = omega arith
on_first_some c (row ∷ rows) = omega arith

lines_some : (text : List Symbol) → 0 < length (lines text)
lines_some [] = omega arith
lines_some (Break ∷ text) = omega arith
lines_some (Character c ∷ text) = on_first_some c (lines text)

beginning_whole : (symbols : List Symbol) (most : ℕ) → length symbols ≤ most → beginning symbols most ≡ symbols
beginning_whole symbols most within =
    let rows = lines symbols in
    let row = length rows - 1 in
    let line = line_of rows row in
    let end_at : Place = (row, length line) in
    let at = is_at_end rows row (length line) (omega (arith, lines_some symbols)) refl in
    let all : min most (length symbols) ≡ length symbols = omega (arith, within) in
    let place : place_of symbols (min most (length symbols)) ≡ end_at =
    ap (place_of symbols) all ∙ ap (λ (t : List Symbol). place_of t (length t)) (sym (joined-lines symbols)) ∙ sym at.value in
    let edge : edge_back line (length line) ≡ length line =
    sym (edge_back_is line (length line) (length line) (omega arith) (edge_at_end line) (λ k after upto. absurd (omega (arith, after, upto)))) in
    let index : index_of symbols end_at ≡ length symbols =
    ap (λ (t : List Symbol). index_of t end_at) (sym (joined-lines symbols)) ∙ at.index_is ∙ ap length (joined-lines symbols) in
    ap (λ (p : Place). symbols_between symbols (0, 0) (cluster_end rows p)) place
    ∙ ap (λ (column : ℕ). symbols_between symbols (0, 0) (row, column)) edge
    ∙ take_all (index_of symbols end_at - 0) symbols (omega (arith, index))

pub all_fits : (maximum : Option ℕ) (others : ℕ) (symbols : List Symbol) → is_allowed maximum (others + length symbols) ≡ true → fitting_beside maximum others symbols ≡ symbols
all_fits None others symbols room = refl
all_fits (Some most) others symbols room = beginning_whole symbols (most - others) (grind (arith, nat_tests, room))

-- ---- selected text, as the code tests it

pub selected_is : {T : Type 0} (found : Option T) (selected : Bool) → MatchOption found (selected ≡ false) (λ ends. selected ≡ true) → is_some found ≡ selected
selected_is None selected h = sym h
selected_is (Some ends) selected h = sym h
