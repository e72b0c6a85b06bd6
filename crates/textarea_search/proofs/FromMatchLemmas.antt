-- Searches among a line's matches that begin at one of them.
use Rattle.std.proofs.Common.{◌≡◌, ℕ, zero, suc, ◌+◌, ◌-◌, ◌<◌, ◌≤◌, ◌⊎◌, Bool, true, false, cond, List, [], ◌∷◌, ◌++◌, map, length, get_or, take, drop, reverse, Option, None, Some, IfSome, refl, sym}
use Rattle.std.proofs.Common.{ap, ◌∙◌, subst, inl, inr, ⊎_elim, arith, option_map, IsUtf8, IsCharBoundary}
use Rattle.std.specs.Prelude.{All, Contains}
use Rattle.std.specs.Coded.{Coded-set, coded_option, coded_ℕ}
use Rattle.std.specs.List.{find}
use Rattle.std.specs.Option.{option_or}
use Rattle.std.specs.Str.{chars}
use Rattle.std.proofs.Math.Logic.{∥∥₁_elim}
use Rattle.std.proofs.lemmas.Bool.Decides.{nat_tests}
use Rattle.std.proofs.lemmas.List.{drop_more, map-append, reverse-append, take-append-drop}
use Rattle.std.proofs.lemmas.List.Elements.{All-head, All-nil, All-cons, All-map, All-weaker}
use Rattle.std.proofs.lemmas.List.Folds.{find-append}
use Rattle.regex_hir.specs.Re.{Re}
use Rattle.regex_hir.specs.Find.{Match}
use Rattle.regex_hir.proofs.OptionLemmas.{option_cases}
use Rattle.regex.specs.Patterns.{span}
use Rattle.regex.specs.Search.{next_match}
use Rattle.regex.proofs.SearchLemmas.{matches_after_none, matches_after_some}
use Rattle.textarea_search.specs.Columns.{column_of_byte}
use Rattle.textarea_search.specs.ListedMatches.{IsMatchIn, IsOneOf, after_match, column_of_match}
use Rattle.textarea_search.specs.Spans.{columns_after, columns_in, spans_after}
use Rattle.textarea_search.specs.Starts.{is_past}
use Rattle.textarea_search.specs.declared.search.listed_match.ListedMatch.{ListedMatch}
use Rattle.textarea_search.proofs.ColumnLemmas.{column_at_boundary, column_later, column_of_span}
use Rattle.textarea_search.proofs.ListedLemmas.{LiesFrom, last_of_some, later_fails, next_lies, next_ordered, spans_lie}
use Rattle.textarea_search.proofs.StartLemmas.{All-reverse, find-none}

-- the columns that are left, by what `match_after` found
pub columns_step : (used tree : Re) (line : List ℕ) (after : ℕ) (found : ListedMatch) → used ≡ tree → IsMatchIn line found →
    spans_after used line after ≡ (found.start, found.end) ∷ spans_after used line (found.end + 1) →
    columns_after tree line after ≡ found.column ∷ columns_after tree line (found.end + 1)
columns_step used tree line after found same place e =
    ap (map (column_of_span line)) (subst (λ t. spans_after t line after ≡ (found.start, found.end) ∷ spans_after t line (found.end + 1)) same e)
    ∙ ap (λ (c : ℕ). c ∷ columns_after tree line (found.end + 1)) (sym place.column)

not_yet : (known column x : ℕ) (at : Bool) → known < column → x ≤ known → is_past column at x ≡ false
not_yet known column x at lt le = grind (arith, nat_tests)

passes : (known column : ℕ) (at : Bool) → known < column → is_past known at column ≡ true
passes known column at lt = grind (arith, nat_tests)

module _ (tree : Re) (line : List ℕ) where
  steps : (after : ℕ) → (spans_after tree line after ≡ [])
      ⊎ ((m : Match) × (next_match true tree line after ≡ Some m) × (spans_after tree line after ≡ span m ∷ spans_after tree line (m.trace.end + 1)))
  steps after =
      ⊎_elim
      (λ none. inl (ap (map span) (matches_after_none tree line true after none)))
      (λ (some : (m : Match) × (_ ≡ Some m)). inr (some.0, some.1, ap (map span) (matches_after_some tree line true after some.0 some.1)))
      (option_cases (next_match true tree line after))

  -- what is left after the match at k
  rest_after : (k after : ℕ) (d : ℕ × ℕ) → k < length (spans_after tree line after) →
      drop (suc k) (spans_after tree line after) ≡ spans_after tree line ((get_or (spans_after tree line after) k d).1 + 1)
  rest_after zero after d lt =
      elim (steps after) [
        | inl none ↦ absurd (omega (arith, lt, ap length none))
        | inr step ↦ subst (λ (ss : List (ℕ × ℕ)). drop 1 ss ≡ spans_after tree line ((get_or ss 0 d).1 + 1)) (sym step.2) refl
      ]
  rest_after (suc k) after d lt =
      elim (steps after) [
        | inl none ↦ absurd (omega (arith, lt, ap length none))
        | inr step ↦
            let within : k < length (spans_after tree line (step.0.trace.end + 1)) = omega (arith, lt, ap length step.2) in
            subst (λ (ss : List (ℕ × ℕ)). drop (suc (suc k)) ss ≡ spans_after tree line ((get_or ss (suc k) d).1 + 1)) (sym step.2) (rest_after k (step.0.trace.end + 1) d within)
      ]

  module _ (text : IsUtf8 line) where
    -- the matches that are left start at or after a byte before the end of the match before
    spans_above : (after byte : ℕ) → IsCharBoundary line byte → byte ≤ after - 1 → All (λ s. column_of_byte line byte ≤ column_of_span line s) (spans_after tree line after)
    spans_above after byte boundary le =
        All-weaker (LiesFrom line after) (λ s. column_of_byte line byte ≤ column_of_span line s)
        (λ s lies. omega (arith, column_later line byte s.0 text boundary (omega (arith, lies.0, le)) lies.1.0)) (spans_after tree line after) (spans_lie tree line after)

    pub columns_above : (found : ListedMatch) → IsMatchIn line found → All (λ c. found.column ≤ c) (columns_after tree line (found.end + 1))
    columns_above found place =
        All-map (λ c. found.column ≤ c) (column_of_span line) (spans_after tree line (found.end + 1))
        (All-weaker (λ s. column_of_byte line found.start ≤ column_of_span line s) (λ s. found.column ≤ column_of_span line s) (λ s le. omega (arith, place.column, le))
        (spans_after tree line (found.end + 1)) (spans_above (found.end + 1) found.start place.starts (omega (arith, place.ordered))))

    -- the matches before the match at k start at or before it
    spans_below : (k after : ℕ) (d : ℕ × ℕ) → k < length (spans_after tree line after) →
        All (λ s. column_of_span line s ≤ column_of_span line (get_or (spans_after tree line after) k d)) (take k (spans_after tree line after))
    spans_below zero after d lt = All-nil (λ s. column_of_span line s ≤ column_of_span line (get_or (spans_after tree line after) 0 d))
    spans_below (suc k) after d lt =
        elim (steps after) [
          | inl none ↦ absurd (omega (arith, lt, ap length none))
          | inr step ↦
              let m = step.0 in
              let rest = spans_after tree line (m.trace.end + 1) in
              let within : k < length rest = omega (arith, lt, ap length step.2) in
              let lies = next_lies tree line after m step.1 in
              let above = spans_above (m.trace.end + 1) m.start lies.1 (omega (arith, next_ordered tree line after m step.1)) in
              subst (λ (ss : List (ℕ × ℕ)). All (λ s. column_of_span line s ≤ column_of_span line (get_or ss (suc k) d)) (take (suc k) ss)) (sym step.2)
              (All-cons (λ s. column_of_span line s ≤ column_of_span line (get_or rest k d)) (span m) (take k rest) (above k d within) (spans_below k (m.trace.end + 1) d within))
        ]

    -- the columns before one of the matches, and those after it
    module _ (before : ListedMatch) (place : IsMatchIn line before) (listed : Contains (spans_after tree line 0) (before.start, before.end)) where
      abbrev front : List ℕ
      front = map (column_of_span line) (take listed.0 (spans_after tree line 0))

      in_segments : columns_in tree line ≡ front ++ before.column ∷ columns_after tree line (before.end + 1)
      in_segments =
          let all = spans_after tree line 0 in
          let k = listed.0 in
          let s : ℕ × ℕ = (before.start, before.end) in
          let is : get_or all k s ≡ s = listed.2 in
          let next : k + 1 ≡ suc k = omega arith in
          let back : drop k all ≡ s ∷ spans_after tree line (before.end + 1) =
          drop_more all k s listed.1 ∙ ap (λ (x : ℕ × ℕ). x ∷ drop (k + 1) all) is ∙ ap (λ (n : ℕ). s ∷ drop n all) next
          ∙ ap (λ (l : List (ℕ × ℕ)). s ∷ l) (rest_after k 0 s listed.1 ∙ ap (λ (x : ℕ × ℕ). spans_after tree line (x.1 + 1)) is) in
          ap (map (column_of_span line)) (sym (take-append-drop k all) ∙ ap (λ (l : List (ℕ × ℕ)). take k all ++ l) back)
          ∙ map-append (column_of_span line) (take k all) (s ∷ spans_after tree line (before.end + 1))
          ∙ ap (λ (c : ℕ). front ++ c ∷ columns_after tree line (before.end + 1)) (sym place.column)

      below : All (λ c. c ≤ before.column) front
      below =
          let all = spans_after tree line 0 in
          let k = listed.0 in
          let s : ℕ × ℕ = (before.start, before.end) in
          let is : column_of_span line (get_or all k s) ≡ before.column = ap (column_of_span line) listed.2 ∙ sym place.column in
          All-map (λ c. c ≤ before.column) (column_of_span line) (take k all)
          (subst (λ (n : ℕ). All (λ s. column_of_span line s ≤ n) (take k all)) is (spans_below k 0 s listed.1))

      -- a search for the first match after a column that is after this match, and for the last one before it
      pub first_after : (column : ℕ) (at : Bool) → before.column < column → find (is_past column at) (columns_in tree line) ≡ find (is_past column at) (columns_after tree line (before.end + 1))
      first_after column at lt =
          let test = is_past column at in
          let rest = columns_after tree line (before.end + 1) in
          let none : find test front ≡ None =
          find-none test front (All-weaker (λ c. c ≤ before.column) (λ c. test c ≡ false) (λ c le. not_yet before.column column c at lt le) front below) in
          ap (find test) in_segments ∙ find-append test front (before.column ∷ rest) ∙ ap (λ o. option_or o (find test (before.column ∷ rest))) none
          ∙ ap (λ b. cond b (Some before.column) (find test rest)) (not_yet before.column column before.column at lt (omega arith))

      pub last_after : (column : ℕ) (at : Bool) → before.column < column →
          find (λ c. is_past c at column) (reverse (columns_in tree line))
          ≡ option_or (find (λ c. is_past c at column) (reverse (columns_after tree line (before.end + 1)))) (Some before.column)
      last_after column at lt =
          let test : ℕ → Bool = λ c. is_past c at column in
          let rest = columns_after tree line (before.end + 1) in
          ap (λ cs. find test (reverse cs)) in_segments ∙ ap (find test) (reverse-append front (before.column ∷ rest))
          ∙ find-append test (reverse (before.column ∷ rest)) (reverse front)
          ∙ last_of_some test before.column rest (find test (reverse front)) (passes before.column column at lt)

-- the same where the search may also begin at the line's start
module _ (tree : Re) (line : List ℕ) (text : IsUtf8 line) (column : ℕ) (at : Bool) where
  pub first_from_start : (before : Option ListedMatch) → IfSome before (IsOneOf (spans_after tree line 0) line) → IfSome before (λ (known : ListedMatch). known.column < column) →
      find (is_past column at) (columns_in tree line) ≡ find (is_past column at) (columns_after tree line (after_match before))
  first_from_start None known lt = refl
  first_from_start (Some before) known lt =
      ∥∥₁_elim known.listed (Coded-set (coded_option coded_ℕ) _ _) (λ listed. first_after tree line text before known.place listed column at lt)

  or_none : {X : Type 0} (o : Option X) → o ≡ option_or o None
  or_none None = refl
  or_none (Some x) = refl

  pub last_from_start : (before : Option ListedMatch) → IfSome before (IsOneOf (spans_after tree line 0) line) → IfSome before (λ (known : ListedMatch). known.column < column) →
      find (λ c. is_past c at column) (reverse (columns_in tree line))
      ≡ option_or (find (λ c. is_past c at column) (reverse (columns_after tree line (after_match before)))) (option_map (λ (known : ListedMatch). known.column) before)
  last_from_start None known lt = or_none (find (λ c. is_past c at column) (reverse (columns_in tree line)))
  last_from_start (Some before) known lt =
      ∥∥₁_elim known.listed (Coded-set (coded_option coded_ℕ) _ _) (λ listed. last_after tree line text before known.place listed column at lt)

pub columns_within : (tree : Re) (line : List ℕ) → IsUtf8 line → All (λ c. c ≤ length (chars line)) (columns_in tree line)
columns_within tree line text =
    All-map (λ c. c ≤ length (chars line)) (column_of_span line) (spans_after tree line 0)
    (All-weaker (LiesFrom line 0) (λ s. column_of_span line s ≤ length (chars line)) (λ s lies. (column_at_boundary line s.0 text lies.1).0) (spans_after tree line 0) (spans_lie tree line 0))

-- the next match isn't before the last one
pub next_not_before : (tree : Re) (line : List ℕ) → IsUtf8 line → (last : Option ListedMatch) (column : ℕ) (rest : List ℕ) → IfSome last (IsMatchIn line) →
    columns_after tree line (after_match last) ≡ column ∷ rest → column_of_match last ≤ column
next_not_before tree line text None column rest place e = omega arith
next_not_before tree line text (Some last) column rest place e =
    All-head (λ c. last.column ≤ c) column rest (subst (All (λ c. last.column ≤ c)) e (columns_above tree line text last place))

-- no match after one that isn't before the column is before it
none_before : (column : ℕ) (at : Bool) (first : ℕ) (rest : List ℕ) → is_past first at column ≡ false → All (λ c. first ≤ c) rest →
    find (λ c. is_past c at column) (reverse (first ∷ rest)) ≡ None
none_before column at first rest fails above =
    let test : ℕ → Bool = λ c. is_past c at column in
    find-none test (reverse (first ∷ rest)) (All-reverse (λ c. test c ≡ false) (first ∷ rest)
    (All-cons (λ c. test c ≡ false) first rest fails
    (All-weaker (λ c. first ≤ c) (λ c. test c ≡ false) (λ c le. later_fails column at first c fails le) rest above)))

-- ---- a step of a search: what `match_after` found passes, or doesn't

module _ (used tree : Re) (line : List ℕ) (after : ℕ) (found : ListedMatch) (same : used ≡ tree) (place : IsMatchIn line found)
    (left : spans_after used line after ≡ (found.start, found.end) ∷ spans_after used line (found.end + 1)) (column : ℕ) (at : Bool) where
  abbrev rest : List ℕ
  rest = columns_after tree line (found.end + 1)

  listed : columns_after tree line after ≡ found.column ∷ rest
  listed = columns_step used tree line after found same place left

  pub last_passes : (known : Option ℕ) → is_past found.column at column ≡ true →
      option_or (find (λ c. is_past c at column) (reverse (columns_after tree line after))) known ≡ option_or (find (λ c. is_past c at column) (reverse rest)) (Some found.column)
  last_passes known e =
      ap (λ cs. option_or (find (λ c. is_past c at column) (reverse cs)) known) listed ∙ last_of_some (λ c. is_past c at column) found.column rest known e

  pub last_fails : IsUtf8 line → (known : Option ℕ) → is_past found.column at column ≡ false →
      option_or (find (λ c. is_past c at column) (reverse (columns_after tree line after))) known ≡ known
  last_fails text known e =
      ap (λ cs. option_or (find (λ c. is_past c at column) (reverse cs)) known) listed
      ∙ ap (λ o. option_or o known) (none_before column at found.column rest e (columns_above tree line text found place))
