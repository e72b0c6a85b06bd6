-- The number of starts, and the number of the start at a position.
use Rattle.std.proofs.Common.{◌≡◌, ℕ, ◌+◌, ◌<◌, ◌≤◌, Bool, true, false, ◌==◌, cond, List, [], ◌∷◌, ◌++◌, map, length, get_or, take, drop, Option, None, Some, option_map, refl, ap, ◌∙◌, arith}
use Rattle.std.specs.Prelude.{String, string_bytes, string_len, All}
use Rattle.std.proofs.Common.{Global}
use Rattle.std.specs.List.{position_from}
use Rattle.std.proofs.lemmas.Bool.Decides.{nat_tests}
use Rattle.std.proofs.lemmas.List.{length-append, length-map, length-take-le, take-append-drop, take-map}
use Rattle.std.proofs.lemmas.List.Elements.{All-head, All-tail, All-weaker}
use Rattle.textarea_text.specs.Place.{is_same_place}
use Rattle.textarea_text.specs.Size.{size_of}
use Rattle.textarea_text.proofs.Sizes.{size_of-append, size_of_more}
use Rattle.textarea_search.specs.Counts.{index_at}
use Rattle.textarea_search.specs.Starts.{bytes_at, starts_from}
use Rattle.textarea_search.proofs.StartLemmas.{starts_from-above, starts_from-below, starts_in_segments, starts_more, text_at}

-- ---- the first element that passes, in sections of a list

position-missing : {X : Type 0} (test : X → Bool) (xs ys : List X) (i : ℕ) → All (λ x. test x ≡ false) xs →
    position_from test i (xs ++ ys) ≡ position_from test (i + length xs) ys
position-missing test [] ys i h = ap (λ n. position_from test n ys) (omega arith)
position-missing test (x ∷ xs) ys i h =
    ap (λ b. cond b (Some i) (position_from test (i + 1) (xs ++ ys))) (All-head (λ y. test y ≡ false) x xs h)
    ∙ position-missing test xs ys (i + 1) (All-tail (λ y. test y ≡ false) x xs h)
    ∙ ap (λ n. position_from test n ys) (omega arith)

position-none : {X : Type 0} (test : X → Bool) (xs : List X) (i : ℕ) → All (λ x. test x ≡ false) xs → position_from test i xs ≡ None
position-none test [] i h = refl
position-none test (x ∷ xs) i h =
    ap (λ b. cond b (Some i) (position_from test (i + 1) xs)) (All-head (λ y. test y ≡ false) x xs h)
    ∙ position-none test xs (i + 1) (All-tail (λ y. test y ≡ false) x xs h)

position-first : {X : Type 0} (test : X → Bool) (xs ys : List X) (i : ℕ) → All (λ x. test x ≡ false) ys →
    position_from test i (xs ++ ys) ≡ position_from test i xs
position-first test [] ys i h = position-none test ys i h
position-first test (x ∷ xs) ys i h = ap (cond (test x) (Some i)) (position-first test xs ys (i + 1) h)

position-map : {X Y : Type 0} (test : Y → Bool) (f : X → Y) (xs : List X) (i : ℕ) →
    position_from test i (map f xs) ≡ position_from (λ x. test (f x)) i xs
position-map test f [] i = refl
position-map test f (x ∷ xs) i = ap (cond (test (f x)) (Some i)) (position-map test f xs (i + 1))

position-same : {X : Type 0} (p q : X → Bool) (xs : List X) (i : ℕ) → ((x : X) → p x ≡ q x) → position_from p i xs ≡ position_from q i xs
position-same p q [] i h = refl
position-same p q (x ∷ xs) i h =
    ap (λ b. cond b (Some i) (position_from p (i + 1) xs)) (h x) ∙ ap (cond (q x) (Some i)) (position-same p q xs (i + 1) h)

moved : (n i : ℕ) (b : Bool) (o : Option ℕ) → cond b (Some (n + i)) (option_map (λ k. n + k) o) ≡ option_map (λ k. n + k) (cond b (Some i) o)
moved n i true o = refl
moved n i false o = refl

position-later : {X : Type 0} (test : X → Bool) (xs : List X) (n i : ℕ) →
    position_from test (n + i) xs ≡ option_map (λ k. n + k) (position_from test i xs)
position-later test [] n i = refl
position-later test (x ∷ xs) n i =
    ap (cond (test x) (Some (n + i))) (ap (λ m. position_from test m xs) (omega arith) ∙ position-later test xs n (i + 1))
    ∙ moved n i (test x) (position_from test (i + 1) xs)

-- ---- the number of the start at a position

in_row : (row column c : ℕ) → is_same_place (row, column) (row, c) ≡ (c == column)
in_row row column c = grind (arith, nat_tests)

other_row : (cursor : ℕ × ℕ) (p : ℕ × ℕ) → p.0 < cursor.0 → is_same_place cursor p ≡ false
other_row cursor p h = grind (arith, nat_tests)

later_row : (cursor : ℕ × ℕ) (p : ℕ × ℕ) → cursor.0 < p.0 → is_same_place cursor p ≡ false
later_row cursor p h = grind (arith, nat_tests)

-- it is that of the column in its line, after all starts before the line
index_in_segments : (columns : List ℕ → List ℕ) (lines : List (List ℕ)) (row column : ℕ) (d : List ℕ) → row < length lines →
    index_at (row, column) (starts_from columns 0 lines)
    ≡ option_map (λ k. length (starts_from columns 0 (take row lines)) + k) (position_from (λ c. c == column) 0 (columns (get_or lines row d)))
index_in_segments columns lines row column d within =
    let test : ℕ × ℕ → Bool = λ place. is_same_place (row, column) place in
    let front = starts_from columns 0 (take row lines) in
    let here : List (ℕ × ℕ) = map (λ c. (row, c)) (columns (get_or lines row d)) in
    let beyond = starts_from columns (row + 1) (drop (row + 1) lines) in
    let before : All (λ p. test p ≡ false) front =
    All-weaker (λ (p : ℕ × ℕ). p.0 < row) (λ p. test p ≡ false) (λ p h. other_row (row, column) p h) front
    (starts_from-below columns 0 row (take row lines) (omega (arith, length-take-le row lines (omega arith)))) in
    let after : All (λ p. test p ≡ false) beyond =
    All-weaker (λ (p : ℕ × ℕ). row + 1 ≤ p.0) (λ p. test p ≡ false) (λ p h. later_row (row, column) p (omega arith)) beyond
    (starts_from-above columns (row + 1) (row + 1) (drop (row + 1) lines) (omega arith)) in
    ap (position_from test 0) (starts_in_segments columns lines row d within)
    ∙ position-missing test front (here ++ beyond) 0 before
    ∙ position-first test here beyond (0 + length front) after
    ∙ position-map test (λ c. (row, c)) (columns (get_or lines row d)) (0 + length front)
    ∙ position-same (λ c. test (row, c)) (λ c. c == column) (columns (get_or lines row d)) (0 + length front) (in_row row column)
    ∙ ap (λ n. position_from (λ c. c == column) n (columns (get_or lines row d))) (omega arith)
    ∙ position-later (λ c. c == column) (columns (get_or lines row d)) (length front) 0

-- ---- the same as the code reads it

-- one line more has its starts more
pub count_more : (columns : List ℕ → List ℕ) (lines : List (String Global)) (i : ℕ) (line : String Global) → i < length lines → line ≡ get_or lines i line →
    length (starts_from columns 0 (take (i + 1) (map string_bytes lines)))
    ≡ length (starts_from columns 0 (take i (map string_bytes lines))) + length (columns (string_bytes line))
count_more columns lines i line within is_line =
    let texts = map string_bytes lines in
    let at = text_at lines i line within is_line in
    ap length (starts_more columns 0 texts i (string_bytes line) (rw length-map within))
    ∙ length-append (starts_from columns 0 (take i texts)) (map (λ c. (0 + i, c)) (columns (get_or texts i (string_bytes line))))
    ∙ ap (λ n. length (starts_from columns 0 (take i texts)) + n)
    (length-map (columns (get_or texts i (string_bytes line))) (λ c. (0 + i, c)) ∙ ap (λ t. length (columns t)) at)

pub index_is : (columns : List ℕ → List ℕ) (lines : List (String Global)) (row column : ℕ) → row < length lines →
    index_at (row, column) (starts_from columns 0 (map string_bytes lines))
    ≡ option_map (λ k. length (starts_from columns 0 (map string_bytes (take row lines))) + k) (position_from (λ c. c == column) 0 (columns (bytes_at lines row)))
index_is columns lines row column within =
    rw (← take-map string_bytes row lines) (index_in_segments columns (map string_bytes lines) row column [] (rw length-map within))

-- ---- the size of the lines above a line

pub front_size : (lines : List (String Global)) (row : ℕ) → size_of (take row lines) ≤ size_of lines
front_size lines row = omega (arith, size_of-append (take row lines) (drop row lines), ap size_of (take-append-drop row lines))

pub above_size : (lines : List (String Global)) (row : ℕ) (line : String Global) → row < length lines → line ≡ get_or lines row line →
    size_of (take row lines) + string_len line + 1 ≤ size_of lines
above_size lines row line within is_line = omega (arith, size_of_more lines row line within is_line, front_size lines (row + 1))
