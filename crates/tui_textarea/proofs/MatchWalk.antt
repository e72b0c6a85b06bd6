-- Steps from match to match, from the first one on.
use Rattle.std.proofs.Common.{◌≡◌, ◌∙◌, ℕ, Bool, true, false, cond, List, [], ◌∷◌, ◌++◌, Option, None, Some, is_some, ap, ap₂, append_assoc, refl, subst, sym, arith, IfSome}
use Rattle.std.specs.Prelude.{All, slice_get}
use Rattle.std.proofs.lemmas.Bool.Decides.{nat_tests}
use Rattle.std.proofs.lemmas.List.Elements.{All-head, All-tail}
use Rattle.textarea_data.specs.declared.range.AtomicRange.{AtomicRange}
use Rattle.textarea_data.specs.declared.range.AtomicCursorBias.TheVariants.{Forward}
use Rattle.textarea_ranges.specs.Lookup.{is_inside, moved_out, range_around, range_edge_or}
use Rattle.textarea_search.specs.Starts.{is_later}
use Rattle.textarea_text.specs.Between.{clip}
use Rattle.textarea_text.specs.Place.{Place, line_of}
use Rattle.textarea_text.specs.Text.{lines}
use Rattle.tui_textarea.specs.Matches.{AreInTextOrder, BeginsWithFirst, GoesThroughMatches, HasPassed, IsPast, LeadsToFirstMatch, LeadsToMatchAfter, StaysAtStarts, StaysAtStartsBy}
use Rattle.tui_textarea.specs.Moves.{gone_to}
use Rattle.tui_textarea.specs.Search.{after_search, match_starts, next_match}
use Rattle.tui_textarea.specs.State.{State, with_document}
use Rattle.tui_textarea.specs.Units.{IsAtStop, document_settled, settled}
use Rattle.tui_textarea.proofs.FoundPlaces.{found_of_all}
use Rattle.tui_textarea.proofs.Settling.{by_unit, settled_text, stop_same}
use Rattle.textarea_clusters.proofs.StopPlaces.{start_is_stop}
use Rattle.textarea_data.specs.declared.cursor.CursorUnit.{CursorUnit}
use Rattle.textarea_data.specs.declared.cursor.CursorUnit.TheVariants as unit
use Rattle.textarea_search.specs.declared.search.direction.Direction.TheVariants as toward

-- ---- one step

-- a search that leads from the one position, a match that these follow, to the other: that is the
-- next of them, and after the one; if none follows, it isn't after the one
abbrev GoesToNext : List Place → Place → Place → Type 0
GoesToNext [] place found = is_later place false found ≡ false
GoesToNext (next ∷ rest) place found = (found ≡ next) × (is_later place false found ≡ true)

-- a position is before the one that follows it in a list in order, and after none before it
later_next : (front : List Place) (place next : Place) (rest : List Place) → AreInTextOrder (front ++ place ∷ next ∷ rest) → is_later place false next ≡ true
later_next [] place next rest order = All-head (λ other. is_later place false other ≡ true) next rest order.0
later_next (x ∷ front) place next rest order = later_next front place next rest order.1

before : (x : Place) (front : List Place) (place : Place) → All (λ other. is_later x false other ≡ true) (front ++ place ∷ []) → is_later x false place ≡ true
before x [] place all = All-head (λ other. is_later x false other ≡ true) place [] all
before x (y ∷ front) place all = before x front place (All-tail (λ other. is_later x false other ≡ true) y (front ++ place ∷ []) all)

never_later : (one other : Place) → is_later one false other ≡ true → is_later other false one ≡ false
never_later one other later = grind (arith, nat_tests)

not_after_itself : (place : Place) → is_later place false place ≡ false
not_after_itself place = grind (arith, nat_tests)

step_to : (cursor new : Place) (front back : List Place) → AreInTextOrder (front ++ cursor ∷ back)
    → ((found : Place) → slice_get (back ++ (front ++ cursor ∷ [])) 0 ≡ Some found → new ≡ found) → GoesToNext back cursor new
step_to cursor new front (next ∷ rest) order goes = (goes next refl, ap (is_later cursor false) (goes next refl) ∙ later_next front cursor next rest order)
step_to cursor new [] [] order goes = ap (is_later cursor false) (goes cursor refl) ∙ not_after_itself cursor
step_to cursor new (x ∷ front) [] order goes = ap (is_later cursor false) (goes x refl) ∙ never_later x cursor (before x front cursor order.0)

goes_to_next : (state : State) (front back : List Place) → AreInTextOrder (match_starts state) → LeadsToMatchAfter state
    → match_starts state ≡ front ++ state.document.cursor ∷ back → GoesToNext back state.document.cursor (after_search state (next_match state false)).document.cursor
goes_to_next state front back order leads is =
    let cursor = state.document.cursor in
    step_to cursor (after_search state (next_match state false)).document.cursor front back (subst AreInTextOrder is order)
    (λ found here. ap (λ (o : Option Place). (after_search state o).document.cursor) (leads front back is ∙ here))

-- one match more is passed
passed_more : (cursor new : Place) (passed back : List Place) → GoesToNext back cursor new → IsPast (passed ++ cursor ∷ []) (is_later cursor false new) new (passed ++ cursor ∷ back)
passed_more cursor new passed [] step = subst (λ (b : Bool). IsPast (passed ++ cursor ∷ []) b new (passed ++ cursor ∷ [])) (sym step) refl
passed_more cursor new passed (next ∷ rest) step =
    subst (λ (b : Bool). IsPast (passed ++ cursor ∷ []) b new (passed ++ cursor ∷ next ∷ rest)) (sym step.1)
    (rest, sym (append_assoc passed (cursor ∷ []) (next ∷ rest)) ∙ ap (λ (place : Place). (passed ++ cursor ∷ []) ++ place ∷ rest) (sym step.0))

-- a search leaves the matches
same_starts : (state : State) (found : Option Place) → match_starts (after_search state found) ≡ match_starts state
same_starts state None = refl
same_starts state (Some place) = refl

settled_starts : (state : State) → match_starts (settled Forward state) ≡ match_starts state
settled_starts state = by_unit (λ s. match_starts s ≡ match_starts state) Forward state (λ is. refl) (λ is. refl)

-- the cursor stays at the start of a match
stays_at : (state : State) (at_cursor : Bool) → StaysAtStarts state → is_some (next_match state at_cursor) ≡ true
    → (settled Forward (after_search state (next_match state at_cursor))).document.cursor ≡ (after_search state (next_match state at_cursor)).document.cursor
stays_at state at_cursor stays some =
    by_unit (λ s. s.document.cursor ≡ (after_search state (next_match state at_cursor)).document.cursor) Forward (after_search state (next_match state at_cursor)) (λ is. refl)
    (λ is. stop_same Forward (after_search state (next_match state at_cursor)).document (after_search state (next_match state at_cursor)).document.cursor
    (at_stop (next_match state at_cursor) some
    (found_of_all (IsAtStop state.document) toward.Forward state at_cursor (subst (λ (found : CursorUnit). StaysAtStartsBy found state) (sym (unit_after (next_match state at_cursor)) ∙ is) stays))))
  where
    unit_after : (found : Option Place) → (after_search state found).settings.cursor_unit ≡ state.settings.cursor_unit
    unit_after None = refl
    unit_after (Some place) = refl

    at_stop : (found : Option Place) → is_some found ≡ true → IfSome found (IsAtStop state.document) → IsAtStop (after_search state found).document (after_search state found).document.cursor
    at_stop None none at = absurd cc
    at_stop (Some place) some at = at

-- there is a match at the cursor, so one is found
some_first : (back front : List Place) (place : Place) → is_some (slice_get (back ++ (front ++ place ∷ [])) 0) ≡ true
some_first [] [] place = refl
some_first [] (x ∷ front) place = refl
some_first (x ∷ back) front place = refl

pub goes_through : (state : State) → AreInTextOrder (match_starts state) → LeadsToMatchAfter state → GoesThroughMatches state
goes_through state order leads starts passed new stays so_far is =
    let cursor = state.document.cursor in
    let found = next_match state false in
    let went = settled Forward (after_search state found) in
    let back = so_far.past.0 in
    let here = so_far.same ∙ so_far.past.1 in
    let some : is_some found ≡ true = ap is_some (leads passed back here) ∙ some_first back passed cursor in
    let step = subst (GoesToNext back cursor) (sym (stays_at state false stays some)) (goes_to_next state passed back order leads here) in
    subst (λ (s : State). HasPassed starts (passed ++ cursor ∷ []) (is_later cursor false s.document.cursor) s) (sym is)
    (record {
      same = settled_starts (after_search state found) ∙ same_starts state found ∙ so_far.same;
      past = subst (IsPast (passed ++ cursor ∷ []) (is_later cursor false went.document.cursor) went.document.cursor) (sym so_far.past.1)
          (passed_more cursor went.document.cursor passed back step);
    })

-- ---- the text's start

none_inside : (ranges : List AtomicRange) → range_around ranges (0, 0) ≡ None
none_inside [] = refl
none_inside (range ∷ ranges) = ap (λ b. cond b (Some range) (range_around ranges (0, 0))) (not_inside range) ∙ none_inside ranges
  where
    not_inside : (range : AtomicRange) → is_inside (0, 0) range ≡ false
    not_inside range = grind (arith, nat_tests)

start_clipped : (rows : List (List ℕ)) → clip rows (0, 0) ≡ (0, 0)
start_clipped rows = ap₂ (λ (row column : ℕ). (row, column)) (omega arith) (omega arith)

-- the cursor goes to the text's start
at_start : (state : State) → (gone_to state (0, 0)).document.cursor ≡ (0, 0)
at_start state =
    ap (λ (place : Place). moved_out state.document.ranges place Forward) (start_clipped (lines state.document.text))
    ∙ ap (λ (found : Option AtomicRange). range_edge_or found (0, 0) Forward) (none_inside state.document.ranges)

-- the state after that
abbrev gone : State → State
gone state = settled Forward (gone_to state (0, 0))

gone_is_at_start : (state : State) → (gone state).document.cursor ≡ (0, 0)
gone_is_at_start state =
    let went = gone_to state (0, 0) in
    by_unit (λ s. s.document.cursor ≡ (0, 0)) Forward went (λ is. at_start state)
    (λ is. stop_same Forward went.document went.document.cursor
    (subst (IsAtStop went.document) (sym (at_start state)) (start_is_stop state.document.ranges (line_of (lines state.document.text) 0) 0))
    ∙ at_start state)

gone_starts : (state : State) → match_starts (gone state) ≡ match_starts state
gone_starts state = settled_starts (gone_to state (0, 0))

pub stays_after : (state : State) → StaysAtStarts state → StaysAtStarts (settled Forward (gone_to state (0, 0)))
stays_after state stays = by_unit StaysAtStarts Forward (gone_to state (0, 0)) (λ is. moved state.settings.cursor_unit stays) (λ is. settled_too state.settings.cursor_unit stays)
  where
    moved : (found : CursorUnit) → StaysAtStartsBy found state → StaysAtStartsBy found (gone_to state (0, 0))
    moved unit.Character h = h
    moved unit.Cluster h = h

    settled_too : (found : CursorUnit) → StaysAtStartsBy found state → StaysAtStartsBy found (with_document state (document_settled Forward (gone_to state (0, 0)).document))
    settled_too unit.Character h = h
    settled_too unit.Cluster h = h

-- a search leaves the text too, and whether the next ones stay at starts
pub searched_text : (state : State) (found : Option Place) → (settled Forward (after_search state found)).document.text ≡ state.document.text
searched_text state None = settled_text Forward state
searched_text state (Some place) = settled_text Forward (after_search state (Some place))

pub stays_searched : (state : State) (found : Option Place) → StaysAtStarts state → StaysAtStarts (settled Forward (after_search state found))
stays_searched state found stays = by_unit StaysAtStarts Forward (after_search state found) (λ is. plain found) (λ is. settled_too found)
  where
    plain : (found : Option Place) → StaysAtStarts (after_search state found)
    plain None = stays
    plain (Some place) = moved state.settings.cursor_unit stays
      where
        moved : (by : CursorUnit) → StaysAtStartsBy by state → StaysAtStartsBy by (after_search state (Some place))
        moved unit.Character h = h
        moved unit.Cluster h = h

    settled_too : (found : Option Place) → StaysAtStartsBy (after_search state found).settings.cursor_unit (with_document (after_search state found) (document_settled Forward (after_search state found).document))
    settled_too None = kept state.settings.cursor_unit stays
      where
        kept : (by : CursorUnit) → StaysAtStartsBy by state → StaysAtStartsBy by (with_document state (document_settled Forward state.document))
        kept unit.Character h = h
        kept unit.Cluster h = h
    settled_too (Some place) = kept state.settings.cursor_unit stays
      where
        kept : (by : CursorUnit) → StaysAtStartsBy by state → StaysAtStartsBy by (with_document (after_search state (Some place)) (document_settled Forward (after_search state (Some place)).document))
        kept unit.Character h = h
        kept unit.Cluster h = h

-- the first match is found, if there is one
first_past : (starts : List Place) (cursor : Place) → ((place : Place) → slice_get starts 0 ≡ Some place → cursor ≡ place) → IsPast [] (is_some (slice_get starts 0)) cursor starts
first_past [] cursor at = refl
first_past (place ∷ rest) cursor at = (rest, ap (λ (p : Place). p ∷ rest) (sym (at place refl)))

pub begins_with_first : (state : State) → LeadsToFirstMatch (settled Forward (gone_to state (0, 0))) → BeginsWithFirst state
begins_with_first state leads from new found stays at some is =
    let starts = match_starts state in
    let start = gone state in
    let next = next_match start true in
    let first : next ≡ slice_get starts 0 = leads (gone_is_at_start state) ∙ ap (λ (all : List Place). slice_get all 0) (gone_starts state) in
    let found_is : found ≡ is_some next = some ∙ ap (λ (s : State). is_some (next_match s true)) at in
    let new_is : new ≡ settled Forward (after_search start next) = is ∙ ap (λ (s : State). settled Forward (after_search s (next_match s true))) at in
    let reached : (place : Place) → slice_get starts 0 ≡ Some place → new.document.cursor ≡ place = λ place here.
    let there : next ≡ Some place = first ∙ here in
    ap (λ (s : State). s.document.cursor) new_is ∙ stays_at start true (stays_after state stays) (ap is_some there) ∙ ap (λ (o : Option Place). (after_search start o).document.cursor) there
    in
    record {
      same = ap match_starts new_is ∙ settled_starts (after_search start next) ∙ same_starts start next ∙ gone_starts state;
      past = subst (λ (b : Bool). IsPast [] b new.document.cursor starts) (sym (found_is ∙ ap is_some first)) (first_past starts new.document.cursor reached);
    }
