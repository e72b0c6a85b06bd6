-- The list of open styles is that of the starts that remain open.
use Rattle.std.proofs.lemmas.Grind.{common_steps}
use Rattle.std.proofs.Common.{◌≡◌, ℕ, zero, suc, ◌+◌, ◌-◌, ◌<◌, ◌≤◌, Bool, true, false, ◌==◌, cond, List, [], ◌∷◌, ◌++◌, take, length, count_by, Option, None, Some, refl, sym, ap, ◌∙◌, subst, inl, inr, arith}
use Rattle.std.specs.List.{slice_get}
use Rattle.std.specs.Option.{option_or, MatchOption}
use Rattle.std.proofs.lemmas.Bool.{false≢true}
use Rattle.std.proofs.lemmas.Bool.Decides.{nat_tests}
use Rattle.std.proofs.lemmas.List.{append_assoc, append-nil, length-append, length-take, take-take, take-append-le, take_all}
use Rattle.std.proofs.lemmas.List.Sums.{sum_by-cons}
use Rattle.textarea_screen.specs.declared.screen.style.Style.{Style}
use Rattle.textarea_highlight.specs.declared.highlight.borders.BorderEffect.{BorderEffect}
use Rattle.textarea_highlight.specs.declared.highlight.borders.BorderEffect.TheVariants.{Start, End}
use Rattle.textarea_highlight.specs.Brackets.{is_start, is_end, StaysOpen, OpensAt, OpensLast, OpensNone, IsStyleAfter}
use Rattle.textarea_highlight.specs.OpenStyles.{passed, passed_all}

-- the number of starts before them that these marks close
closed_by : List BorderEffect → ℕ
closed_by [] = 0
closed_by (Start style ∷ marks) = closed_by marks - 1
closed_by (End ∷ marks) = closed_by marks + 1

StaysAbove : List BorderEffect → ℕ → Type 0
StaysAbove marks d = (n : ℕ) → count_by is_end (take n marks) ≤ count_by is_start (take n marks) + d

-- counting in a prefix: the first mark, and the marks after it
counted_after : (test : BorderEffect → Bool) (mark : BorderEffect) (marks : List BorderEffect) (n : ℕ) →
    count_by test (take (suc n) (mark ∷ marks)) ≡ cond (test mark) 1 0 + count_by test (take n marks)
counted_after test mark marks n = sum_by-cons (λ m. cond (test m) 1 0) mark (take n marks)

above_of_closed : (marks : List BorderEffect) (d : ℕ) → closed_by marks ≤ d → StaysAbove marks d
unfolding closed_by StaysAbove
above_of_closed [] d h zero = omega arith
above_of_closed [] d h (suc n) = omega arith
above_of_closed (Start style ∷ marks) d h zero = omega arith
above_of_closed (Start style ∷ marks) d h (suc n) =
    omega (arith, above_of_closed marks (d + 1) (omega arith) n, counted_after is_start (Start style) marks n, counted_after is_end (Start style) marks n)
above_of_closed (End ∷ marks) d h zero = omega arith
above_of_closed (End ∷ marks) d h (suc n) =
    omega (arith, above_of_closed marks (d - 1) (omega arith) n, counted_after is_start End marks n, counted_after is_end End marks n)

closed_of_above : (marks : List BorderEffect) (d : ℕ) → StaysAbove marks d → closed_by marks ≤ d
unfolding closed_by StaysAbove
closed_of_above [] d h = omega arith
closed_of_above (Start style ∷ marks) d h =
    omega (arith, closed_of_above marks (d + 1) (λ n. omega (arith, h (suc n), counted_after is_start (Start style) marks n, counted_after is_end (Start style) marks n)))
closed_of_above (End ∷ marks) d h =
    let first : 0 < d = omega (arith, h (suc zero), counted_after is_start End marks zero, counted_after is_end End marks zero) in
    omega (arith, closed_of_above marks (d - 1) (λ n. omega (arith, h (suc n), counted_after is_start End marks n, counted_after is_end End marks n)))

stays_of_closed : (marks : List BorderEffect) → (closed_by marks == 0) ≡ true → StaysOpen marks
unfolding StaysAbove
stays_of_closed marks e = λ n. omega (arith, above_of_closed marks 0 (grind (arith, nat_tests)) n)

closed_of_stays : (marks : List BorderEffect) → StaysOpen marks → (closed_by marks == 0) ≡ true
unfolding StaysAbove
closed_of_stays marks h =
    let none : closed_by marks ≤ 0 = closed_of_above marks 0 (λ n. omega (arith, h n)) in
    grind (arith, nat_tests)

-- the styles that these marks start and leave open, in order
left_open : List BorderEffect → List Style
left_open [] = []
left_open (Start style ∷ marks) = cond (closed_by marks == 0) (style ∷ []) [] ++ left_open marks
left_open (End ∷ marks) = left_open marks

pushed : (styles : List Style) (style : Style) (n : ℕ) (rest : List Style) →
    take (length (styles ++ style ∷ []) - n) (styles ++ style ∷ []) ++ rest
    ≡ take (length styles - (n - 1)) styles ++ (cond (n == 0) (style ∷ []) [] ++ rest)
pushed styles style zero rest = grind (arith, common_steps, take_all, append_assoc styles (style ∷ []) rest)
pushed styles style (suc n) rest = grind (arith, common_steps, length-append styles (style ∷ []), nat_tests, take-append-le)

or_unchanged : {X : Type 0} (o : Option X) (x y : X) → option_or o (Some y) ≡ option_or (option_or o (Some y)) (Some x)
or_unchanged None x y = refl
or_unchanged (Some z) x y = refl

-- ---- a start in front of marks

later : (style : Style) (marks : List BorderEffect) (k : ℕ) (other : Style) (i : ℕ) → suc i < k →
    ((j : ℕ) (t : Style) → i < j → ¬ (OpensAt marks j t)) → ¬ (OpensAt (Start style ∷ marks) k other)
later style marks zero other i above h = λ opens. absurd (omega arith)
later style marks (suc k) other i above h = λ opens. h k other (omega arith) opens

later_none : (style : Style) (marks : List BorderEffect) (k : ℕ) (other : Style) → 0 < k → OpensNone marks → ¬ (OpensAt (Start style ∷ marks) k other)
later_none style marks zero other above h = λ opens. absurd (omega arith)
later_none style marks (suc k) other above h = h k other

none_yet : (style : Style) (marks : List BorderEffect) (k : ℕ) (other : Style) → ¬ (StaysOpen marks) → OpensNone marks → ¬ (OpensAt (Start style ∷ marks) k other)
none_yet style marks zero other closed h = λ opens. closed opens.1
none_yet style marks (suc k) other closed h = h k other

-- ---- an end in front of marks

after_end_none : (marks : List BorderEffect) → OpensNone marks → OpensNone (End ∷ marks)
after_end_none marks h zero other opens = let never = opens.0 in cc
after_end_none marks h (suc k) other opens = h k other opens

after_end_later : (marks : List BorderEffect) (i k : ℕ) (other : Style) → suc i < k → ((j : ℕ) (t : Style) → i < j → ¬ (OpensAt marks j t)) → ¬ (OpensAt (End ∷ marks) k other)
after_end_later marks i zero other above h = λ opens. absurd (omega arith)
after_end_later marks i (suc k) other above h = h k other (omega arith)

after_end : (marks : List BorderEffect) (o : Option Style) → MatchOption o (OpensNone marks) (OpensLast marks) →
    MatchOption o (OpensNone (End ∷ marks)) (OpensLast (End ∷ marks))
after_end marks None h = after_end_none marks h
after_end marks (Some t) h = (suc h.0, h.1, λ k other above. after_end_later marks h.0 k other above h.2)

by_last : (marks : List BorderEffect) (base style : Style) (o : Option Style) → MatchOption o (OpensNone marks) (OpensLast marks) →
    MatchOption o (style ≡ base) (λ s. style ≡ s) → IsStyleAfter marks base style
by_last marks base style None h e = inr (h, e)
by_last marks base style (Some t) h e = inl (subst (OpensLast marks) (sym e) h)

passed_split : (marks : List BorderEffect) (styles : List Style) → passed_all styles marks ≡ take (length styles - closed_by marks) styles ++ left_open marks
unfolding closed_by left_open
passed_split [] styles =
    sym (append-nil (take (length styles - 0) styles) ∙ take_all (length styles - 0) styles (omega arith))
passed_split (Start style ∷ marks) styles =
    grind (arith, common_steps, passed_split marks (styles ++ style ∷ []), pushed styles style (closed_by marks) (left_open marks), closed_by marks, left_open marks)
passed_split (End ∷ marks) styles =
    grind (arith, common_steps, closed_by marks, length-take (length styles - 1) styles, passed_split marks (take (length styles - 1) styles), left_open marks, take-take)

passed_all-append : (styles : List Style) (xs ys : List BorderEffect) → passed_all styles (xs ++ ys) ≡ passed_all (passed_all styles xs) ys
passed_all-append styles [] ys = refl
passed_all-append styles (x ∷ xs) ys = passed_all-append (passed styles x) xs ys

pub passed_more : (styles : List Style) (marks : List BorderEffect) (mark : BorderEffect) → styles ≡ passed_all [] marks →
    passed styles mark ≡ passed_all [] (marks ++ mark ∷ [])
passed_more styles marks mark e = ap (λ ys. passed ys mark) e ∙ sym (passed_all-append [] marks (mark ∷ []))

last : {X : Type 0} → List X → Option X
last [] = None
last (x ∷ xs) = option_or (last xs) (Some x)

option_or-assoc : {X : Type 0} (a b c : Option X) → option_or (option_or a b) c ≡ option_or a (option_or b c)
option_or-assoc None b c = refl
option_or-assoc (Some x) b c = refl

option_or-None : {X : Type 0} (a : Option X) → option_or a None ≡ a
option_or-None None = refl
option_or-None (Some x) = refl

last-append : {X : Type 0} (xs ys : List X) → last (xs ++ ys) ≡ option_or (last ys) (last xs)
unfolding last
last-append [] ys = sym (option_or-None (last ys))
last-append (x ∷ xs) ys =
    ap (λ o. option_or o (Some x)) (last-append xs ys) ∙ option_or-assoc (last ys) (last xs) (Some x)

last_is : {X : Type 0} (xs : List X) → slice_get xs (length xs - 1) ≡ last xs
unfolding last
last_is [] = refl
last_is (x ∷ []) = refl
last_is (x ∷ y ∷ xs) = grind (arith, common_steps, last_is (y ∷ xs), or_unchanged (last xs) x y, last xs)

step : (style : Style) (marks : List BorderEffect) (o : Option Style) (stays : Bool) → ((stays ≡ true → StaysOpen marks) × (StaysOpen marks → stays ≡ true)) →
    MatchOption o (OpensNone marks) (OpensLast marks) →
    MatchOption (option_or o (last (cond stays (style ∷ []) []))) (OpensNone (Start style ∷ marks)) (OpensLast (Start style ∷ marks))
unfolding last
step style marks (Some t) stays same h =
    (suc h.0, h.1, λ k other above. later style marks k other h.0 above h.2)
step style marks None true same h = (0, (refl, same.0 refl), λ k other above. later_none style marks k other above h)
step style marks None false same h = λ k other. none_yet style marks k other (λ stays'. false≢true (same.1 stays')) h

last_open : (marks : List BorderEffect) → MatchOption (last (left_open marks)) (OpensNone marks) (OpensLast marks)
unfolding last left_open
last_open [] = λ k other opens. let never = opens.0 in cc
last_open (Start style ∷ marks) =
    grind (
      arith,
      common_steps,
      last-append (cond (closed_by marks == 0) (style ∷ []) []) (left_open marks),
      closed_by marks == 0,
      left_open marks,
      step style marks (last (left_open marks)) (closed_by marks == 0) (stays_of_closed marks, closed_of_stays marks) (last_open marks),
      last (left_open marks),
      stays_of_closed marks,
      closed_of_stays marks,
      last_open marks,
    )
last_open (End ∷ marks) = after_end marks (last (left_open marks)) (last_open marks)

take-nil : (n : ℕ) → take {A = Style} n [] ≡ []
take-nil zero = refl
take-nil (suc n) = refl

pub style_after : (marks : List BorderEffect) (styles : List Style) (base style : Style) → styles ≡ passed_all [] marks →
    MatchOption (slice_get styles (length styles - 1)) (style ≡ base) (λ s. style ≡ s) → IsStyleAfter marks base style
style_after marks styles base style e h =
    grind (arith, common_steps, left_open marks, passed_split marks [], take-nil (length {A = Style} [] - closed_by marks), closed_by marks, last (left_open marks), last_is styles, last, by_last, last_open marks)
