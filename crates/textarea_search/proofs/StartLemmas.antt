-- The match starts of several lines, and which of them a search that wraps around finds.
use Rattle.std.proofs.lemmas.Grind.{common_steps}
use Rattle.std.proofs.Common.{reverse, ◌≡◌, ℕ, ◌+◌, ◌-◌, ◌<◌, ◌≤◌, Bool, true, false, ◌==◌, ◌&&◌, ◌||◌, nat_lt, List, [], ◌∷◌, ◌++◌, map, length, get_or, take, drop, Option, None, Some, option_map, refl, sym, ap, ◌∙◌, arith, zero-add, cond}
use Rattle.std.specs.Prelude.{String, string_bytes}
use Rattle.std.proofs.Common.{Global}
use Rattle.std.specs.List.{find, slice_get, All}
use Rattle.std.specs.Option.{option_or}
use Rattle.std.proofs.lemmas.Bool.Decides.{nat_tests}
use Rattle.std.proofs.lemmas.List.{drop_more, take_more, append-nil, append_assoc, map-append, reverse-append, length-reverse, get_or-reverse, get_or-map, length-take-le, take-append-drop, take_rest, take-map, drop-map, length-map}
use Rattle.std.proofs.lemmas.List.Elements.{All-nil, All-head, All-tail, All-append, All-map, All-weaker}
use Rattle.std.proofs.lemmas.List.Folds.{find-append}
use Rattle.std.proofs.lemmas.Option.{slice_get-map}
use Rattle.textarea_search.specs.Starts.{along, bytes_at, found_start, starts_from, is_ahead_in_line, is_past, is_later, find_or_first}
use Rattle.textarea_search.specs.declared.search.direction.Direction.{Direction}
use Rattle.textarea_search.specs.declared.search.direction.Direction.TheVariants.{Forward, Back}

-- ---- a search in a list of three sections

pub find-none : {X : Type 0} (test : X → Bool) (xs : List X) → All (λ x. test x ≡ false) xs → find test xs ≡ None
find-none test [] h = refl
find-none test (x ∷ xs) h =
    rw (All-head (λ y. test y ≡ false) x xs h) (find-none test xs (All-tail (λ y. test y ≡ false) x xs h))

pub find-first : {X : Type 0} (test : X → Bool) (xs : List X) → All (λ x. test x ≡ true) xs → find test xs ≡ slice_get xs 0
find-first test [] h = refl
find-first test (x ∷ xs) h = rw (All-head (λ y. test y ≡ true) x xs h) refl

pub All-reverse : {X : Type 0} (P : X → Type 0) (xs : List X) → All P xs → All P (reverse xs)
All-reverse P xs h k d lt =
    let within : k < length xs = rw length-reverse at lt in
    rw (get_or-reverse xs k d within) (h (length xs - 1 - k) d (omega arith))

pub find-map : {X Y : Type 0} (test : Y → Bool) (f : X → Y) (xs : List X) → find test (map f xs) ≡ option_map f (find (λ x. test (f x)) xs)
find-map test f [] = refl
find-map test f (x ∷ xs) = grind (arith, common_steps, find-map test f xs)

nil_of_first : {X : Type 0} (xs : List X) → slice_get xs 0 ≡ None → xs ≡ []
nil_of_first [] e = refl
nil_of_first (x ∷ xs) e = cc

joined : {X : Type 0} (here beyond first all : Option X) → (here ≡ None → beyond ≡ None → all ≡ first) →
    option_or (option_or here beyond) all ≡ option_or here (option_or beyond first)
joined None None first all h = h refl refl
joined None (Some y) first all h = refl
joined (Some x) beyond first all h = refl

-- none of the front passes, and each element beyond does
pub find_in_segments : {X : Type 0} (test : X → Bool) (front here beyond : List X) →
    All (λ x. test x ≡ false) front → All (λ x. test x ≡ true) beyond →
    find_or_first test (front ++ (here ++ beyond))
    ≡ option_or (find test here) (option_or (slice_get beyond 0) (slice_get (front ++ here) 0))
find_in_segments test front here beyond none each =
    grind (arith, common_steps, find-append test front (here ++ beyond), find-none test front none, find-append test here beyond, find-first test beyond each, joined, nil_of_first, append-nil)

-- ---- the starts of lines

pub starts-append : (columns : List ℕ → List ℕ) (row : ℕ) (xs ys : List (List ℕ)) →
    starts_from columns row (xs ++ ys) ≡ starts_from columns row xs ++ starts_from columns (row + length xs) ys
starts-append columns row [] ys = ap (λ n. starts_from columns n ys) (omega arith)
starts-append columns row (x ∷ xs) ys = grind (arith, common_steps, starts-append columns (row + 1) xs ys, append_assoc)

pub starts_from-above : (columns : List ℕ → List ℕ) (low row : ℕ) (xs : List (List ℕ)) → low ≤ row → All (λ p. low ≤ p.0) (starts_from columns row xs)
starts_from-above columns low row [] h = All-nil (λ (p : ℕ × ℕ). low ≤ p.0)
starts_from-above columns low row (x ∷ xs) h =
    All-append (λ (p : ℕ × ℕ). low ≤ p.0) _ _ (All-map (λ (p : ℕ × ℕ). low ≤ p.0) (λ column. (row, column)) (columns x) (λ k d lt. h))
    (starts_from-above columns low (row + 1) xs (omega arith))

pub starts_from-below : (columns : List ℕ → List ℕ) (row high : ℕ) (xs : List (List ℕ)) → row + length xs ≤ high → All (λ p. p.0 < high) (starts_from columns row xs)
starts_from-below columns row high [] h = All-nil (λ (p : ℕ × ℕ). p.0 < high)
starts_from-below columns row high (x ∷ xs) h =
    let here : row < high = omega arith in
    All-append (λ (p : ℕ × ℕ). p.0 < high) _ _ (All-map (λ (p : ℕ × ℕ). p.0 < high) (λ column. (row, column)) (columns x) (λ k d lt. here))
    (starts_from-below columns (row + 1) high xs (omega arith))

-- the starts before a line, in it and after it
pub starts_in_segments : (columns : List ℕ → List ℕ) (lines : List (List ℕ)) (row : ℕ) (d : List ℕ) → row < length lines →
    starts_from columns 0 lines
    ≡ starts_from columns 0 (take row lines) ++ (map (λ column. (row, column)) (columns (get_or lines row d)) ++ starts_from columns (row + 1) (drop (row + 1) lines))
starts_in_segments columns lines row d within =
    rw (take-append-drop, drop_more lines row d within, zero-add, length-take-le row lines (omega arith)) at (starts-append columns 0 (take row lines) (drop row lines))

-- ---- which positions are after a cursor, and which before it

pub not_ahead : (cursor : ℕ × ℕ) (at : Bool) (p : ℕ × ℕ) → p.0 < cursor.0 → is_later cursor at p ≡ false
not_ahead cursor at p h = grind (arith, nat_tests)

pub ahead : (cursor : ℕ × ℕ) (at : Bool) (p : ℕ × ℕ) → cursor.0 < p.0 → is_later cursor at p ≡ true
ahead cursor at p h = grind (arith, nat_tests)

-- ---- the text of a line

pub text_at : (lines : List (String Global)) (i : ℕ) (line : String Global) → i < length lines → line ≡ get_or lines i line →
    get_or (map string_bytes lines) i (string_bytes line) ≡ string_bytes line
text_at lines i line within e = get_or-map string_bytes lines i line (string_bytes line) within ∙ ap string_bytes (sym e)

-- ---- the first start of lines, and the last

first_of_append : {X : Type 0} (xs ys : List X) (x : X) → slice_get xs 0 ≡ Some x → slice_get (xs ++ ys) 0 ≡ Some x
first_of_append [] ys x e = cc
first_of_append (z ∷ xs) ys x e = e

-- one of these lines, as the code reads it, in front of the others
module _ (columns : List ℕ → List ℕ) (row : ℕ) (lines : List (String Global)) (i : ℕ) (line : String Global) (within : i < length lines) (is_line : line ≡ get_or lines i line) where
  from_line : drop i (map string_bytes lines) ≡ string_bytes line ∷ drop (i + 1) (map string_bytes lines)
  from_line = rw (text_at lines i line within is_line) at (drop_more (map string_bytes lines) i (string_bytes line) (rw length-map within))

  pub first_start_here : (column : ℕ) → slice_get (columns (string_bytes line)) 0 ≡ Some column →
      slice_get (starts_from columns row (drop i (map string_bytes lines))) 0 ≡ Some (row, column)
  first_start_here column e =
      rw from_line (first_of_append (map (λ c. (row, c)) (columns (string_bytes line))) _ (row, column) (slice_get-map (λ c. (row, c)) (columns (string_bytes line)) 0 ∙ rw e refl))

  pub first_start_next : slice_get (columns (string_bytes line)) 0 ≡ None →
      starts_from columns row (drop i (map string_bytes lines)) ≡ starts_from columns (row + 1) (drop (i + 1) (map string_bytes lines))
  first_start_next e = rw (from_line, nil_of_first (columns (string_bytes line)) e) refl

nil_of_reverse : {X : Type 0} (xs : List X) → slice_get (reverse xs) 0 ≡ None → xs ≡ []
nil_of_reverse [] e = refl
nil_of_reverse (x ∷ xs) e = absurd (omega (arith, ap length (nil_of_first (reverse (x ∷ xs)) e), length-reverse (x ∷ xs)))

pub map_reverse : {X Y : Type 0} (f : X → Y) (xs : List X) → map f (reverse xs) ≡ reverse (map f xs)
map_reverse f [] = refl
map_reverse f (x ∷ xs) =
    grind (arith, common_steps, reverse-append (x ∷ []) xs, map-append f (reverse xs) (x ∷ []), map_reverse f xs, reverse-append (f x ∷ []) (map f xs))

-- the starts of the lines up to the line at i
pub starts_more : (columns : List ℕ → List ℕ) (row : ℕ) (lines : List (List ℕ)) (i : ℕ) (d : List ℕ) → i < length lines →
    starts_from columns row (take (i + 1) lines) ≡ starts_from columns row (take i lines) ++ map (λ c. (row + i, c)) (columns (get_or lines i d))
starts_more columns row lines i d within = rw (take_more lines i d within, starts-append, length-take-le i lines (omega arith), append-nil) refl

-- the same as the code reads it, from the last line on
module _ (columns : List ℕ → List ℕ) (row : ℕ) (lines : List (String Global)) (i : ℕ) (line : String Global) (within : i < length lines) (is_line : line ≡ get_or lines i line) where
  upto_line : reverse (starts_from columns row (take (i + 1) (map string_bytes lines)))
      ≡ reverse (map (λ c. (row + i, c)) (columns (string_bytes line))) ++ reverse (starts_from columns row (take i (map string_bytes lines)))
  upto_line =
      rw (starts_more columns row (map string_bytes lines) i (string_bytes line) (rw length-map within), text_at lines i line within is_line)
      (reverse-append (starts_from columns row (take i (map string_bytes lines))) (map (λ c. (row + i, c)) (columns (string_bytes line))))

  pub last_start_here : (column : ℕ) → slice_get (reverse (columns (string_bytes line))) 0 ≡ Some column →
      slice_get (reverse (starts_from columns row (take (i + 1) (map string_bytes lines)))) 0 ≡ Some (row + i, column)
  last_start_here column e =
      let place : ℕ → ℕ × ℕ = λ c. (row + i, c) in
      ap (λ ys. slice_get ys 0) upto_line
      ∙ first_of_append (reverse (map place (columns (string_bytes line)))) (reverse (starts_from columns row (take i (map string_bytes lines)))) (row + i, column)
      (ap (λ ys. slice_get ys 0) (sym (map_reverse place (columns (string_bytes line))))
      ∙ slice_get-map place (reverse (columns (string_bytes line))) 0 ∙ ap (option_map place) e)

  pub last_start_next : slice_get (reverse (columns (string_bytes line))) 0 ≡ None →
      reverse (starts_from columns row (take (i + 1) (map string_bytes lines))) ≡ reverse (starts_from columns row (take i (map string_bytes lines)))
  last_start_next e = rw (upto_line, nil_of_reverse (columns (string_bytes line)) e) refl

-- ---- a search in sections

pub find-same : {X : Type 0} (p q : X → Bool) (xs : List X) → All (λ x. p x ≡ q x) xs → find p xs ≡ find q xs
find-same p q [] h = refl
find-same p q (x ∷ xs) h =
    ap (λ b. cond b (Some x) (find p xs)) (All-head (λ x. p x ≡ q x) x xs h)
    ∙ ap (cond (q x) (Some x)) (find-same p q xs (All-tail (λ x. p x ≡ q x) x xs h))

same_row : (row : ℕ) (b : Bool) → (nat_lt row row || ((row == row) && b)) ≡ b
same_row row b = grind (arith, nat_tests)

module _ (columns : List ℕ → List ℕ) (lines : List (List ℕ)) (row column : ℕ) (at : Bool) (d : List ℕ) (within : row < length lines) where
  pub next_start_in_segments : found_start Forward (starts_from columns 0 lines) (row, column) at
      ≡ option_or (option_map (λ c. (row, c)) (find (is_past column at) (columns (get_or lines row d))))
      (option_or (slice_get (starts_from columns (row + 1) (drop (row + 1) lines)) 0) (slice_get (starts_from columns 0 (take (row + 1) lines)) 0))
  next_start_in_segments =
      let test : ℕ × ℕ → Bool = is_later (row, column) at in
      let front = starts_from columns 0 (take row lines) in
      let here : List (ℕ × ℕ) = map (λ c. (row, c)) (columns (get_or lines row d)) in
      let beyond = starts_from columns (row + 1) (drop (row + 1) lines) in
      let none : All (λ p. test p ≡ false) front =
      All-weaker (λ (p : ℕ × ℕ). p.0 < row) (λ p. test p ≡ false) (λ p h. not_ahead (row, column) at p h) front
      (starts_from-below columns 0 row (take row lines) (omega (arith, length-take-le row lines (omega arith)))) in
      let each : All (λ p. test p ≡ true) beyond =
      All-weaker (λ (p : ℕ × ℕ). row + 1 ≤ p.0) (λ p. test p ≡ true) (λ p h. ahead (row, column) at p (omega arith)) beyond
      (starts_from-above columns (row + 1) (row + 1) (drop (row + 1) lines) (omega arith)) in
      let found : find test here ≡ option_map (λ c. (row, c)) (find (is_past column at) (columns (get_or lines row d))) =
      find-map test (λ c. (row, c)) (columns (get_or lines row d))
      ∙ ap (option_map (λ c. (row, c))) (find-same (λ c. test (row, c)) (is_past column at) (columns (get_or lines row d)) (λ k e lt. same_row row _)) in
      ap (find_or_first test) (starts_in_segments columns lines row d within)
      ∙ find_in_segments test front here beyond none each
      ∙ ap (λ o. option_or o (option_or (slice_get beyond 0) (slice_get (front ++ here) 0))) found
      ∙ rw (starts_more columns 0 lines row d within, zero-add) refl

  pub previous_start_in_segments : found_start Back (starts_from columns 0 lines) (row, column) at
      ≡ option_or (option_map (λ c. (row, c)) (find (λ c. is_past c at column) (reverse (columns (get_or lines row d)))))
      (option_or (slice_get (reverse (starts_from columns 0 (take row lines))) 0) (slice_get (reverse (starts_from columns row (drop row lines))) 0))
  previous_start_in_segments =
      let test : ℕ × ℕ → Bool = λ place. is_later place at (row, column) in
      let front = starts_from columns 0 (take row lines) in
      let here : List (ℕ × ℕ) = map (λ c. (row, c)) (columns (get_or lines row d)) in
      let beyond = starts_from columns (row + 1) (drop (row + 1) lines) in
      let none : All (λ p. test p ≡ false) (reverse beyond) =
      All-reverse (λ p. test p ≡ false) beyond
      (All-weaker (λ (p : ℕ × ℕ). row + 1 ≤ p.0) (λ p. test p ≡ false) (λ p h. not_ahead p at (row, column) (omega arith)) beyond
      (starts_from-above columns (row + 1) (row + 1) (drop (row + 1) lines) (omega arith))) in
      let each : All (λ p. test p ≡ true) (reverse front) =
      All-reverse (λ p. test p ≡ true) front
      (All-weaker (λ (p : ℕ × ℕ). p.0 < row) (λ p. test p ≡ true) (λ p h. ahead p at (row, column) h) front
      (starts_from-below columns 0 row (take row lines) (omega (arith, length-take-le row lines (omega arith))))) in
      let found : find test (reverse here) ≡ option_map (λ c. (row, c)) (find (λ c. is_past c at column) (reverse (columns (get_or lines row d)))) =
      ap (find test) (sym (map_reverse (λ c. (row, c)) (columns (get_or lines row d))))
      ∙ find-map test (λ c. (row, c)) (reverse (columns (get_or lines row d)))
      ∙ ap (option_map (λ c. (row, c))) (find-same (λ c. test (row, c)) (λ c. is_past c at column) (reverse (columns (get_or lines row d))) (λ k e lt. same_row row _)) in
      let turned : reverse (front ++ (here ++ beyond)) ≡ reverse beyond ++ (reverse here ++ reverse front) =
      reverse-append front (here ++ beyond) ∙ ap (λ ys. ys ++ reverse front) (reverse-append here beyond)
      ∙ append_assoc (reverse beyond) (reverse here) (reverse front) in
      let rest : reverse beyond ++ reverse here ≡ reverse (starts_from columns row (drop row lines)) =
      sym (ap (λ ys. reverse (starts_from columns row ys)) (drop_more lines row d within) ∙ reverse-append here beyond) in
      ap (λ ys. find_or_first test (reverse ys)) (starts_in_segments columns lines row d within)
      ∙ ap (find_or_first test) turned
      ∙ find_in_segments test (reverse beyond) (reverse here) (reverse front) none each
      ∙ ap (λ o. option_or o (option_or (slice_get (reverse front) 0) (slice_get (reverse beyond ++ reverse here) 0))) found
      ∙ ap (λ ys. option_or (option_map (λ c. (row, c)) (find (λ c. is_past c at column) (reverse (columns (get_or lines row d))))) (option_or (slice_get (reverse front) 0) (slice_get ys 0))) rest

-- ---- the same as the code reads it: a line of strings, those after it, and those up to it

pub bytes_of_line : (lines : List (String Global)) (i : ℕ) (line : String Global) → i < length lines → line ≡ get_or lines i line → bytes_at lines i ≡ string_bytes line
bytes_of_line lines i line within e = get_or-map string_bytes lines i line [] within ∙ ap string_bytes (sym e)

module _ (columns : List ℕ → List ℕ) (lines : List (String Global)) (row column : ℕ) (at : Bool) (within : row < length lines) where
  forward_segments : found_start Forward (starts_from columns 0 (map string_bytes lines)) (row, column) at
      ≡ option_or (option_map (λ c. (row, c)) (find (is_past column at) (columns (bytes_at lines row))))
      (option_or (slice_get (starts_from columns (row + 1) (map string_bytes (take (length lines - (row + 1)) (drop (row + 1) lines)))) 0)
      (slice_get (starts_from columns 0 (map string_bytes (take (row + 1) lines))) 0))
  forward_segments =
      let within' : row < length (map string_bytes lines) = rw length-map within in
      rw (take_rest lines (row + 1), ← drop-map string_bytes (row + 1) lines, ← take-map string_bytes (row + 1) lines)
      (next_start_in_segments columns (map string_bytes lines) row column at [] within')

  forward_from : (beyond : Option (ℕ × ℕ)) → find (is_past column at) (columns (bytes_at lines row)) ≡ None →
      slice_get (starts_from columns (row + 1) (map string_bytes (take (length lines - (row + 1)) (drop (row + 1) lines)))) 0 ≡ beyond →
      found_start Forward (starts_from columns 0 (map string_bytes lines)) (row, column) at
      ≡ option_or beyond (slice_get (starts_from columns 0 (map string_bytes (take (row + 1) lines))) 0)
  forward_from beyond none e = forward_segments ∙ rw (none, e) refl

  back_segments : found_start Back (starts_from columns 0 (map string_bytes lines)) (row, column) at
      ≡ option_or (option_map (λ c. (row, c)) (find (λ c. is_past c at column) (reverse (columns (bytes_at lines row)))))
      (option_or (slice_get (reverse (starts_from columns 0 (map string_bytes (take row lines)))) 0)
      (slice_get (reverse (starts_from columns row (map string_bytes (take (length lines - row) (drop row lines))))) 0))
  back_segments =
      let within' : row < length (map string_bytes lines) = rw length-map within in
      rw (take_rest lines row, ← drop-map string_bytes row lines, ← take-map string_bytes row lines)
      (previous_start_in_segments columns (map string_bytes lines) row column at [] within')

  pub found_here : (direction : Direction) (start : ℕ) →
      find (is_ahead_in_line direction column at) (along direction (columns (bytes_at lines row))) ≡ Some start →
      found_start direction (starts_from columns 0 (map string_bytes lines)) (row, column) at ≡ Some (row, start)
  found_here Forward start found = forward_segments ∙ rw found refl
  found_here Back start found = back_segments ∙ rw found refl

  back_from : (before : Option (ℕ × ℕ)) → find (λ c. is_past c at column) (reverse (columns (bytes_at lines row))) ≡ None →
      slice_get (reverse (starts_from columns 0 (map string_bytes (take row lines)))) 0 ≡ before →
      found_start Back (starts_from columns 0 (map string_bytes lines)) (row, column) at
      ≡ option_or before (slice_get (reverse (starts_from columns row (map string_bytes (take (length lines - row) (drop row lines))))) 0)
  back_from before none e = back_segments ∙ rw (none, e) refl

  -- the first start beyond the line, or from the text's other end, if none is ahead in the line
  pub forward_beyond : (direction : Direction) (beyond : Option (ℕ × ℕ)) → direction ≡ Forward →
      find (is_ahead_in_line direction column at) (along direction (columns (bytes_at lines row))) ≡ None →
      slice_get (starts_from columns (row + 1) (map string_bytes (take (length lines - (row + 1)) (drop (row + 1) lines)))) 0 ≡ beyond →
      found_start direction (starts_from columns 0 (map string_bytes lines)) (row, column) at
      ≡ option_or beyond (slice_get (starts_from columns 0 (map string_bytes (take (row + 1) lines))) 0)
  forward_beyond Forward beyond is none e = forward_from beyond none e
  forward_beyond Back beyond is none e = absurd cc

  pub back_beyond : (direction : Direction) (before : Option (ℕ × ℕ)) → direction ≡ Back →
      find (is_ahead_in_line direction column at) (along direction (columns (bytes_at lines row))) ≡ None →
      slice_get (reverse (starts_from columns 0 (map string_bytes (take row lines)))) 0 ≡ before →
      found_start direction (starts_from columns 0 (map string_bytes lines)) (row, column) at
      ≡ option_or before (slice_get (reverse (starts_from columns row (map string_bytes (take (length lines - row) (drop row lines))))) 0)
  back_beyond Forward before is none e = absurd cc
  back_beyond Back before is none e = back_from before none e
