-- Where words begin and end, by the classes of two neighbouring characters.
use Rattle.std.proofs.Common.{Option, Some, None, ◌≡◌, ℕ, zero, suc, ◌+◌, ◌-◌, ◌<◌, ◌≤◌, Bool, true, false, not, ◌&&◌, nat_lt, nat_le, List, length, get_or, take, drop, min, ◌++◌, ◌∷◌, [], arith, refl, sym, ◌∙◌, ap, add-one, zero-add}
use Rattle.textarea_text.proofs.Prelude.{common_steps, and-true, and-false, cases_lt, ltb-true, length_push, get_or_default, get_or-take, get_or-drop, length-take, length-drop, nat_tests, get_or-enumerate_from, length-enumerate_from}
use Rattle.textarea_text.specs.Prelude.{IfSome, IsGreatest, IsLeast, enumerate_from, class_of, class_at, is_space_class, begins, ends, is_edge, is_word_start, is_past_word}
use Rattle.textarea_text.specs.Prelude.{is_word_last, is_later_edge, is_word_last_from, is_earlier_word_start, lies_between, CharKind, Space, Punct, Other, Edge, Start, Past}
use Rattle.textarea_text.proofs.NearestLemmas.{IsFound, IsFound-shifted, from_start}

-- the class of the character before a column, or Space at the line's start
abbrev pub class_before : List ℕ → ℕ → CharKind
class_before line zero = Space
class_before line (suc e) = class_at line e

-- an iteration of a loop over the characters of a line; `kind` is the class of the character
pub record IsTurn (line : List ℕ) (n column : ℕ) (kind : CharKind) : Type 0 where
  pub column_is : column ≡ n
  pub within : n < length line
  pub kind_is : kind ≡ class_at line n

pub IsTurn-enumerate_from : (line : List ℕ) (n column c : ℕ) (kind : CharKind) → n < length (enumerate_from 0 line) → (column, c) ≡ get_or (enumerate_from 0 line) n (column, c) → kind ≡ class_of c → IsTurn line n column kind
IsTurn-enumerate_from line n column c kind below item of_c =
    let within : n < length line = rw length-enumerate_from at below in
    let pair = item ∙ get_or-enumerate_from 0 line n (column, c) within in
    let here : c ≡ get_or line n 0 = ap (λ (p : ℕ × ℕ). p.1) pair ∙ get_or_default line n c 0 within in
    record { column_is = ap (λ (p : ℕ × ℕ). p.0) pair ∙ zero-add n; within = within; kind_is = of_c ∙ ap class_of here }

-- the same in a loop over only the characters, with a count of its own
pub IsTurn-chars : (line : List ℕ) (n column c : ℕ) (kind : CharKind) → column ≡ n → n < length line → c ≡ get_or line n c → kind ≡ class_of c → IsTurn line column column kind
IsTurn-chars line n column c kind counted below item of_c =
    rw counted (record { column_is = refl; within = below; kind_is = of_c ∙ ap class_of (item ∙ get_or_default line n c 0 below) })

-- an iteration over a prefix of a line is one over the line
pub IsTurn-take : (line : List ℕ) (front n column : ℕ) (kind : CharKind) → IsTurn (take front line) n column kind → (n < front) × IsTurn line n column kind
IsTurn-take line front n column kind turn =
    let bound : n < min front (length line) = rw length-take at turn.within in
    let before : n < front = omega (arith, bound) in (
      before,
      record {
        column_is = turn.column_is;
        within = omega (arith, bound);
        kind_is = turn.kind_is ∙ ap class_of (get_or-take front line n 0 before);
      },
    )

-- after an iteration its class is the one before the next column
pub class_before-after : (line : List ℕ) (column : ℕ) (kind : CharKind) → IsTurn line column column kind → kind ≡ class_before line (column + 1)
class_before-after line column kind turn = rw add-one turn.kind_is

-- the same if the columns count the items that were yielded
pub class_before-more : {X : Type 0} (line : List ℕ) (yielded : List X) (x : X) (column : ℕ) (kind : CharKind) → IsTurn line (length yielded) column kind → kind ≡ class_before line (length (yielded ++ x ∷ []))
class_before-more line yielded x column kind turn = rw (length_push yielded x, add-one) turn.kind_is

-- at the line's start any character other than a Space begins a word
begins_first : (kind : CharKind) → (not (is_space_class kind) && true) ≡ begins Space kind
begins_first Space = refl
begins_first Punct = refl
begins_first Other = refl

pub is_word_start-class_before : (line : List ℕ) (e : ℕ) → e < length line → is_word_start line e ≡ begins (class_before line e) (class_at line e)
is_word_start-class_before line zero within =
    grind (arith, common_steps, begins_first (class_at line 0))
is_word_start-class_before line (suc e) within =
    grind (arith, common_steps)

pub is_past_word-class_before : (line : List ℕ) (e : ℕ) → e < length line → is_past_word line e ≡ ends (class_before line e) (class_at line e)
is_past_word-class_before line zero within =
    grind (arith, common_steps)
is_past_word-class_before line (suc e) within =
    grind (arith, common_steps)

is_edge-class_before : (edge : Edge) (line : List ℕ) (e : ℕ) → e < length line → is_edge edge line e ≡ lies_between edge (class_before line e) (class_at line e)
is_edge-class_before Start = is_word_start-class_before
is_edge-class_before Past = is_past_word-class_before

-- a word's last character is followed by one of another class
pub is_word_last-inside : (line : List ℕ) (e : ℕ) → suc e < length line → is_word_last line e ≡ ends (class_at line e) (class_at line (suc e))
is_word_last-inside line e within =
    grind (arith, common_steps, add-one)

-- or it is the line's last
pub is_word_last-last : (line : List ℕ) (e : ℕ) → suc e ≡ length line → is_word_last line e ≡ not (is_space_class (class_at line e))
is_word_last-last line e last =
    grind (arith, common_steps, and-true (not (is_space_class (class_at line e))))

-- ---- the test of each search in an iteration

pub is_earlier_word_start-turn : (line : List ℕ) (start n column : ℕ) (before kind : CharKind) (b : Bool) → n < start → IsTurn line n column kind → before ≡ class_before line n →
    begins before kind ≡ b → is_earlier_word_start line start n ≡ b
is_earlier_word_start-turn line start n column before kind b earlier turn is_after shows =
    grind (arith, common_steps, is_word_start-class_before line n turn.within)

pub is_later_edge-turn : (edge : Edge) (line : List ℕ) (start n column : ℕ) (before kind : CharKind) (b : Bool) → start < column → IsTurn line n column kind →
    before ≡ class_before line n → lies_between edge before kind ≡ b → is_later_edge edge line start n ≡ b
is_later_edge-turn edge line start n column before kind b later turn is_after shows =
    grind (arith, common_steps, is_edge-class_before edge line n turn.within)

-- ---- where a test fails: on the wrong side of the start, or past the line

pub is_later_edge-early : (edge : Edge) (line : List ℕ) (start n column : ℕ) (kind : CharKind) → column ≤ start → IsTurn line n column kind → is_later_edge edge line start n ≡ false
is_later_edge-early edge line start n column kind early turn =
    grind (arith, common_steps)

is_edge-past : (edge : Edge) (line : List ℕ) (e : ℕ) → length line ≤ e → is_edge edge line e ≡ false
is_edge-past Start line e past = grind (arith, common_steps)
is_edge-past Past line e past = grind (arith, common_steps)

pub is_later_edge-past : (edge : Edge) (line : List ℕ) (start e : ℕ) → length line ≤ e → is_later_edge edge line start e ≡ false
is_later_edge-past edge line start e past = rw (is_edge-past edge line e past) (and-false (nat_lt start e))

pub is_word_last_from-past : (line : List ℕ) (start e : ℕ) → length line ≤ e → is_word_last_from line start e ≡ false
is_word_last_from-past line start e past =
    grind (arith, common_steps, and-false (nat_le start e))

pub is_earlier_word_start-past : (line : List ℕ) (start e : ℕ) → min start (length line) ≤ e → is_earlier_word_start line start e ≡ false
is_earlier_word_start-past line start e past =
    grind (arith, common_steps, cases_lt e start, and-false (nat_lt e start))

-- ---- the column before an iteration's, which may be a word's last

pub is_word_last_from-turn : (line : List ℕ) (start column : ℕ) (before kind : CharKind) (b : Bool) → start < column → IsTurn line column column kind →
    before ≡ class_before line column → ends before kind ≡ b → is_word_last_from line start (column - 1) ≡ b
is_word_last_from-turn line start zero before kind b later turn is_after shows = absurd (omega arith)
is_word_last_from-turn line start (suc m) before kind b later turn is_after shows =
    let at : suc m - 1 ≡ m = omega arith in
    let first : nat_le start m ≡ true = grind (arith, nat_tests) in
    rw (at, first, is_word_last-inside line m turn.within, ← is_after, ← turn.kind_is) shows

-- the end of the line counts as a Space
last_before_space : (kind : CharKind) → not (is_space_class kind) ≡ ends kind Space
last_before_space Space = refl
last_before_space Punct = refl
last_before_space Other = refl

pub is_word_last_from-end : (line : List ℕ) (start column : ℕ) (before : CharKind) (b : Bool) → start < column → column ≡ length line → before ≡ class_before line column →
    ends before Space ≡ b → is_word_last_from line start (column - 1) ≡ b
is_word_last_from-end line start zero before b later whole is_after shows = absurd (omega arith)
is_word_last_from-end line start (suc m) before b later whole is_after shows =
    grind (arith, common_steps, is_word_last-last line m whole, last_before_space before)

pub is_word_last_from-early : (line : List ℕ) (start e : ℕ) → e < start → is_word_last_from line start e ≡ false
is_word_last_from-early line start e early =
    grind (arith, common_steps)

-- a word start that is found before `start` is also in the line
pub IsGreatest-within : (line : List ℕ) (start : ℕ) (found : Option ℕ) → IsGreatest (is_earlier_word_start line start) found → IfSome found (λ e. (e < start) × (e < length line))
IsGreatest-within line start None greatest = tt
IsGreatest-within line start (Some e) greatest =
    grind (arith, common_steps, ltb-true)

-- ---- the rest of a line from a column on has the edges of the line, but at its first character

class_at-drop : (line : List ℕ) (start k : ℕ) → class_at (drop start line) k ≡ class_at line (start + k)
class_at-drop line start k = ap class_of (get_or-drop start line k 0)

class_at-drop_next : (line : List ℕ) (start k : ℕ) → class_at (drop start line) (suc k) ≡ class_at line (suc (start + k))
class_at-drop_next line start k =
    let next : start + suc k ≡ suc (start + k) = omega arith in
    class_at-drop line start (suc k) ∙ ap (λ e. class_at line e) next

is_edge-drop : (edge : Edge) (line : List ℕ) (start m : ℕ) → is_edge edge (drop start line) (suc m) ≡ is_edge edge line (suc (start + m))
is_edge-drop edge line start m =
    grind (arith, common_steps, length-drop, is_edge-class_before, class_at-drop, class_at-drop_next, is_edge-past)

is_later_edge-drop : (edge : Edge) (line : List ℕ) (start k : ℕ) → is_later_edge edge line start (start + k) ≡ is_later_edge edge (drop start line) 0 k
is_later_edge-drop edge line start zero = grind (arith, common_steps, nat_tests)
is_later_edge-drop edge line start (suc m) = grind (arith, common_steps, nat_tests, is_edge-drop)

is_later_edge-before : (edge : Edge) (line : List ℕ) (start e : ℕ) → e < start → is_later_edge edge line start e ≡ false
is_later_edge-before edge line start e early = grind (arith, common_steps)

-- the first edge in the rest of a line is the line's next one
pub later_edge-found : (edge : Edge) (line rest : List ℕ) (start : ℕ) (found : Option ℕ) → rest ≡ drop start line → IsLeast (is_later_edge edge rest 0) found →
    IfSome found (λ k. start + k < length line) → IsFound (is_later_edge edge line start) (length line) (from_start start found)
later_edge-found edge line rest start found is =
    IsFound-shifted (is_later_edge edge line start) (is_later_edge edge rest 0) start (length line) found (is_later_edge-before edge line start) (λ k. is_later_edge-drop edge line start k ∙ ap (λ cs. is_later_edge edge cs 0 k) (sym is))

is_word_last-past : (line : List ℕ) (e : ℕ) → length line ≤ e → is_word_last line e ≡ false
is_word_last-past line e past = grind (arith, common_steps)

is_word_last-drop : (line : List ℕ) (start k : ℕ) → is_word_last (drop start line) k ≡ is_word_last line (start + k)
is_word_last-drop line start k =
    grind (arith, common_steps, length-drop, is_word_last-inside, class_at-drop, class_at-drop_next, is_word_last-last, is_word_last-past)

is_word_last_from-drop : (line : List ℕ) (start k : ℕ) → is_word_last_from line start (start + k) ≡ is_word_last_from (drop start line) 0 k
is_word_last_from-drop line start k = grind (arith, common_steps, nat_tests, is_word_last-drop)

-- a word's first last character in the rest of a line is the line's next one
pub word_last-found : (line rest : List ℕ) (start : ℕ) (found : Option ℕ) → rest ≡ drop start line → IsLeast (is_word_last_from rest 0) found →
    IfSome found (λ k. start + k < length line) → IsFound (is_word_last_from line start) (length line) (from_start start found)
word_last-found line rest start found is =
    IsFound-shifted (is_word_last_from line start) (is_word_last_from rest 0) start (length line) found (is_word_last_from-early line start) (λ k. is_word_last_from-drop line start k ∙ ap (λ cs. is_word_last_from cs 0 k) (sym is))

pub is_earlier_word_start-drop : (line : List ℕ) (from width start k : ℕ) → from + width ≡ start → 0 < k → is_earlier_word_start line start (from + k) ≡ is_earlier_word_start (drop from line) width k
is_earlier_word_start-drop line from width start zero at some = absurd (omega arith)
is_earlier_word_start-drop line from width start (suc m) at some =
    grind (arith, common_steps, nat_tests, is_edge-drop)
