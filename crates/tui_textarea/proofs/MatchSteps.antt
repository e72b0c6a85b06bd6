-- The match that follows another, and the first one.
use Rattle.std.proofs.Common.{◌≡◌, ◌∙◌, true, false, cond, List, [], ◌∷◌, ◌++◌, Option, None, Some, ap, refl, subst, arith}
use Rattle.std.specs.Prelude.{All}
use Rattle.std.specs.List.{find, slice_get}
use Rattle.std.specs.Option.{option_or}
use Rattle.std.proofs.lemmas.Bool.Decides.{nat_tests}
use Rattle.std.proofs.lemmas.List.Elements.{All-head, All-tail}
use Rattle.textarea_search.specs.Starts.{find_or_first, is_later}
use Rattle.textarea_text.specs.Place.{Place}
use Rattle.tui_textarea.specs.Matches.{AreInTextOrder, LeadsToFirstMatch, LeadsToMatchAfter}
use Rattle.tui_textarea.specs.Search.{match_starts}
use Rattle.tui_textarea.specs.State.{State}

first_later : (place : Place) (xs : List Place) → All (λ other. is_later place false other ≡ true) xs → find (is_later place false) xs ≡ slice_get xs 0
first_later place [] all = refl
first_later place (x ∷ xs) all = ap (λ b. cond b (Some x) (find (is_later place false) xs)) (All-head (λ other. is_later place false other ≡ true) x xs all)

not_later : (one other : Place) → is_later one false other ≡ true → is_later other false one ≡ false
not_later one other later = grind (arith, nat_tests)

not_itself : (place : Place) → is_later place false place ≡ false
not_itself place = grind (arith, nat_tests)

-- the first position after this one is the one that follows it
next_found : (front : List Place) (place : Place) (back : List Place) → AreInTextOrder (front ++ place ∷ back) → find (is_later place false) (front ++ place ∷ back) ≡ slice_get back 0
next_found [] place back sorted = ap (λ b. cond b (Some place) (find (is_later place false) back)) (not_itself place) ∙ first_later place back sorted.0
next_found (x ∷ front) place back sorted =
    ap (λ b. cond b (Some x) (find (is_later place false) (front ++ place ∷ back))) (not_later x place (before front sorted.0)) ∙ next_found front place back sorted.1
  where
    before : (front : List Place) → All (λ other. is_later x false other ≡ true) (front ++ place ∷ back) → is_later x false place ≡ true
    before [] all = All-head (λ other. is_later x false other ≡ true) place back all
    before (y ∷ front) all = before front (All-tail (λ other. is_later x false other ≡ true) y (front ++ place ∷ back) all)

at_or_after_start : (place : Place) → is_later (0, 0) true place ≡ true
at_or_after_start place = grind (arith, nat_tests)

-- from the text's start on the first one is found
first_found : (xs : List Place) → find (is_later (0, 0) true) xs ≡ slice_get xs 0
first_found [] = refl
first_found (x ∷ xs) = ap (λ b. cond b (Some x) (find (is_later (0, 0) true) xs)) (at_or_after_start x)

step_found : (front : List Place) (place : Place) (back : List Place) → AreInTextOrder (front ++ place ∷ back)
    → find_or_first (is_later place false) (front ++ place ∷ back) ≡ slice_get (back ++ (front ++ place ∷ [])) 0
step_found front place [] sorted = ap (λ found. option_or found (slice_get (front ++ place ∷ []) 0)) (next_found front place [] sorted)
step_found front place (next ∷ rest) sorted = ap (λ found. option_or found (slice_get (front ++ place ∷ next ∷ rest) 0)) (next_found front place (next ∷ rest) sorted)

pub match_after : (state : State) → AreInTextOrder (match_starts state) → LeadsToMatchAfter state
match_after state sorted front back is =
    let cursor = state.document.cursor in
    ap (find_or_first (is_later cursor false)) is ∙ step_found front cursor back (subst AreInTextOrder is sorted)

same_or : (found : Option Place) → option_or found found ≡ found
same_or None = refl
same_or (Some place) = refl

pub first_match : (state : State) → LeadsToFirstMatch state
first_match state at_start =
    let starts = match_starts state in
    ap (λ (place : Place). find_or_first (is_later place true) starts) at_start ∙ ap (λ found. option_or found (slice_get starts 0)) (first_found starts) ∙ same_or (slice_get starts 0)
