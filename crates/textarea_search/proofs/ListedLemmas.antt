-- The list of a line's matches in the order in which a search finds them.
use Rattle.std.proofs.lemmas.Grind.{common_steps}
use Rattle.std.proofs.Common.{◌≡◌, ℕ, zero, suc, ◌+◌, ◌-◌, ◌<◌, ◌≤◌, Bool, true, false, cond, List, [], ◌∷◌, map, length, reverse, Option, None, Some, option_map, MatchOption, IfSome, refl, sym, ap}
use Rattle.std.proofs.Common.{◌∙◌, subst, inl, inr, ⊎_elim, arith, IsCharBoundary}
use Rattle.std.specs.Prelude.{All}
use Rattle.std.specs.List.{find}
use Rattle.std.specs.Option.{option_or}
use Rattle.std.proofs.lemmas.Bool.{cases_lt}
use Rattle.std.proofs.lemmas.Bool.Decides.{nat_tests}
use Rattle.std.proofs.lemmas.List.{reverse-append}
use Rattle.std.proofs.lemmas.List.Elements.{All-nil, All-cons, All-weaker}
use Rattle.std.proofs.lemmas.List.Folds.{find-append}
use Rattle.std.proofs.lemmas.Option.{none-some, same_Some}
use Rattle.regex_hir.specs.Re.{Re}
use Rattle.regex_hir.specs.Find.{Match, find_str}
use Rattle.regex_hir.proofs.AttemptLemmas.{cond_some}
use Rattle.regex_hir.proofs.FindLemmas.{IsFirst-of_first_between}
use Rattle.regex_hir.proofs.OptionLemmas.{option_cases}
use Rattle.regex.specs.Patterns.{span}
use Rattle.regex.specs.Search.{next_match}
use Rattle.regex.specs.Strings.{match_span}
use Rattle.regex.specs.declared.string.matcher.Match as found_match
use Rattle.regex.proofs.SearchLemmas.{next_same, next_later, next_within, leftmost_within, matches_after_none, matches_after_some}
use Rattle.regex.proofs.Utf8Lemmas.{IsCharBoundary-of_test}
use Rattle.textarea_search.specs.Spans.{spans_after}
use Rattle.textarea_search.specs.Starts.{is_past}
use Rattle.textarea_util.proofs.Options.{none_of_map}

some_of_map : {A B : Type 0} (f : A → B) (o : Option A) (y : B) → option_map f o ≡ Some y → (x : A) × (o ≡ Some x) × (f x ≡ y)
some_of_map f None y e = absurd (none-some y e)
some_of_map f (Some x) y e = (x, refl, same_Some _ _ e)

module _ (tree : Re) (line : List ℕ) (after : ℕ) where
  -- the next match is the first one from the end of the last, unless that is the same match again
  pub next_same_span : (o : Option (ℕ × ℕ)) → o ≡ option_map span (find_str tree line (after - 1)) → IfSome o (λ s. after ≤ s.1) →
      o ≡ option_map span (next_match true tree line after)
  next_same_span o e forth = grind (arith, common_steps, next_same)

  -- else it is the first one from one byte later
  pub next_later_span : (o : Option (ℕ × ℕ)) (was : ℕ × ℕ) → option_map span (find_str tree line (after - 1)) ≡ Some was → was.1 < after →
      o ≡ option_map span (find_str tree line after) → o ≡ option_map span (next_match true tree line after)
  next_later_span o was first lt e =
      let v = some_of_map span (find_str tree line (after - 1)) was first in
      let ends : v.0.trace.end < after = subst (λ (s : ℕ × ℕ). s.1 < after) (sym v.2) lt in
      e ∙ ap (option_map span) (sym (next_later tree line true after v.0 v.1 ends))

  -- the next match is the first of those that are left
  pub first_of_rest : (r : Option found_match.Match) → option_map match_span r ≡ option_map span (next_match true tree line after) →
      MatchOption r (spans_after tree line after ≡ []) (λ m. spans_after tree line after ≡ match_span m ∷ spans_after tree line ((match_span m).1 + 1))
  first_of_rest None e = ap (map span) (matches_after_none tree line true after (none_of_map span _ (sym e)))
  first_of_rest (Some x) e = grind (arith, common_steps, some_of_map, matches_after_some)

-- a match starts at or after the byte at which the search for it begins
pub starts_after : (tree : Re) (line : List ℕ) (from : ℕ) (r : Option found_match.Match) → option_map match_span r ≡ option_map span (find_str tree line from) →
    IfSome r (λ m. from ≤ (match_span m).0)
starts_after tree line from None e = tt
starts_after tree line from (Some x) e =
    let v = some_of_map span (find_str tree line from) (match_span x) (sym e) in
    subst (λ (s : ℕ × ℕ). from ≤ s.0) v.2 (leftmost_within tree line true from v.0 v.1).0

-- such a match also ends after that byte
pub forth_of_start : (after : ℕ) (r : Option found_match.Match) → IfSome r (λ m. after ≤ (match_span m).0) →
    IfSome r (λ m. (after ≤ (match_span m).0 + 1) × (after ≤ (match_span m).1))
forth_of_start after None h = tt
forth_of_start after (Some m) h = (omega arith, omega (arith, m.ordered))

-- ---- where the remaining matches are

-- the span starts between characters, and at or after the end of the match before
abbrev pub LiesFrom : List ℕ → ℕ → ℕ × ℕ → Type 0
LiesFrom line after s = (after ≤ s.0 + 1) × IsCharBoundary line s.0

module _ (tree : Re) (line : List ℕ) where
  -- a match starts at or after the byte at which the search for it begins, between characters
  pub leftmost_boundary : (from : ℕ) (m : Match) → find_str tree line from ≡ Some m → (from ≤ m.start) × IsCharBoundary line m.start
  unfolding find_str
  leftmost_boundary from m e = grind (arith, common_steps, IsFirst-of_first_between _ from (length line) m e, IsCharBoundary-of_test, cond_some)

  -- the next match is the first one from the end of the last, or from one byte later
  pub next_found : (after : ℕ) (m : Match) → next_match true tree line after ≡ Some m → (from : ℕ) × (after ≤ from + 1) × (find_str tree line from ≡ Some m)
  next_found after m e =
      ⊎_elim
      (λ none. absurd (none-some m (sym none ∙ sym (next_same tree line true after (λ x f. absurd (none-some x (sym none ∙ f)))) ∙ e)))
      (λ (some : (x : Match) × (_ ≡ Some x)). elim (cases_lt some.0.trace.end after) [
        | inl lt ↦ (after, omega arith, sym (next_later tree line true after some.0 some.1 lt) ∙ e)
        | inr ge ↦
            let same = next_same tree line true after (λ x f. subst (λ (y : Match). after ≤ y.trace.end) (same_Some _ _ (sym some.1 ∙ f)) ge) in
            (after - 1, omega arith, sym same ∙ e)
      ])
      (option_cases (find_str tree line (after - 1)))

  pub next_lies : (after : ℕ) (m : Match) → next_match true tree line after ≡ Some m → LiesFrom line after (span m)
  next_lies after m e =
      let next = next_found after m e in
      let boundary = leftmost_boundary next.0 m next.2 in (omega (arith, next.1, boundary.0), boundary.1)

  pub next_ordered : (after : ℕ) (m : Match) → next_match true tree line after ≡ Some m → m.start ≤ m.trace.end
  next_ordered after m e = let next = next_found after m e in (leftmost_within tree line true next.0 m next.2).1

  all_lie : (n after : ℕ) → length line + 1 ≤ after + n → All (LiesFrom line after) (spans_after tree line after)
  all_lie zero after h = grind (arith, common_steps, matches_after_none, All-nil, next_within, option_cases)
  all_lie (suc n) after h =
      ⊎_elim
      (λ none. subst (All (LiesFrom line after)) (sym (ap (map span) (matches_after_none tree line true after none))) (All-nil (LiesFrom line after)))
      (λ (some : (x : Match) × (_ ≡ Some x)).
      let m = some.0 in
      let within = next_within tree line true after m some.1 in
      let rest : All (LiesFrom line (m.trace.end + 1)) (spans_after tree line (m.trace.end + 1)) = all_lie n (m.trace.end + 1) (omega arith) in
      subst (All (LiesFrom line after)) (sym (ap (map span) (matches_after_some tree line true after m some.1)))
      (All-cons (LiesFrom line after) (span m) (spans_after tree line (m.trace.end + 1)) (next_lies after m some.1)
      (All-weaker (LiesFrom line (m.trace.end + 1)) (LiesFrom line after) (λ s lies. (omega (arith, lies.0), lies.1)) (spans_after tree line (m.trace.end + 1)) rest)))
      (option_cases (next_match true tree line after))

  pub spans_lie : (after : ℕ) → All (LiesFrom line after) (spans_after tree line after)
  spans_lie after = all_lie (length line + 1) after (omega arith)

-- ---- the last match that passes

-- the last element that passes is in the rest, or it is the first
joined : {X : Type 0} (o : Option X) (x : X) (last : Option X) → option_or (option_or o (Some x)) last ≡ option_or o (Some x)
joined None x last = refl
joined (Some y) x last = refl

pub last_of_more : {X : Type 0} (test : X → Bool) (x : X) (rest : List X) → find test (reverse (x ∷ rest)) ≡ option_or (find test (reverse rest)) (cond (test x) (Some x) None)
last_of_more test x rest = ap (find test) (reverse-append (x ∷ []) rest) ∙ find-append test (reverse rest) (x ∷ [])

pub last_of_some : {X : Type 0} (test : X → Bool) (x : X) (rest : List X) (last : Option X) → test x ≡ true →
    option_or (find test (reverse (x ∷ rest))) last ≡ option_or (find test (reverse rest)) (Some x)
last_of_some test x rest last passes =
    ap (λ o. option_or o last)
    (last_of_more test x rest ∙ ap (λ b. option_or (find test (reverse rest)) (cond b (Some x) None)) passes)
    ∙ joined (find test (reverse rest)) x last

-- what isn't before a mark has nothing before the mark after it
pub later_fails : (byte : ℕ) (at : Bool) (x y : ℕ) → is_past x at byte ≡ false → x ≤ y → is_past y at byte ≡ false
later_fails byte at x y e h = grind (arith, nat_tests)
