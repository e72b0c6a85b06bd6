-- The position that a search finds is a position of the text.
use Rattle.std.proofs.Common.{◌≡◌, ℕ, zero, suc, ◌+◌, ◌-◌, ◌*◌, ◌/◌, ◌<◌, ◌≤◌, nat_lt, Bool, List, [], ◌∷◌, ◌++◌, length, map, take, Option, None, Some, IfSome, encode_utf8_all, refl, subst, sym, arith}
use Rattle.std.specs.Prelude.{All, slice_get}
use Rattle.std.specs.List.{find}
use Rattle.std.specs.Option.{option_or}
use Rattle.std.specs.Char.{encode_utf8}
use Rattle.std.specs.Str.{chars, chars_after, continuation_len, lead_bits}
use Rattle.std.proofs.lemmas.Bool.{le-ltb, lt-ltb, ltb-true}
use Rattle.std.proofs.lemmas.List.Elements.{All-append, All-head, All-map, All-nil, All-tail, All-weaker}
use Rattle.textarea_text.specs.Text.{Symbol, lines}
use Rattle.textarea_text.specs.Place.{Place, IsPlace, IsPlaceOf}
use Rattle.textarea_search.specs.Columns.{column_of_byte}
use Rattle.textarea_search.specs.Matches.{match_columns, match_spans}
use Rattle.textarea_search.specs.Starts.{along, is_ahead, starts_from}
use Rattle.textarea_search.specs.declared.search.direction.Direction.{Direction}
use Rattle.tui_textarea.specs.Search.{found_match, match_starts, starts_in}
use Rattle.tui_textarea.specs.State.{State}
use Rattle.tui_textarea.proofs.Cases.{by_test}
use Rattle.tui_textarea.proofs.WholeStarts.{unit_all}
use Rattle.textarea_search.proofs.ColumnLemmas.{All-along}

-- ---- the number of characters in the first bytes of a line

first_fewer : (n c k : ℕ) (bytes : List ℕ) → length (chars_after n c (take k bytes)) ≤ length (chars_after n c bytes)
first_fewer zero c k [] = by_empty k
  where
    by_empty : (k : ℕ) → length (chars_after zero c (take k [])) ≤ 1
    by_empty zero = omega arith
    by_empty (suc k) = omega arith
first_fewer zero c zero (b ∷ bytes) = omega arith
first_fewer zero c (suc k) (b ∷ bytes) = omega (arith, first_fewer (continuation_len b) (lead_bits b) k bytes)
first_fewer (suc n) c zero bytes = omega arith
first_fewer (suc n) c (suc k) [] = omega arith
first_fewer (suc n) c (suc k) (b ∷ bytes) = first_fewer n (c * 64 + (b - 128)) k bytes

-- the first bytes of a text have at most its characters
pub fewer : (k : ℕ) (bytes : List ℕ) → length (chars (take k bytes)) ≤ length (chars bytes)
unfolding chars
fewer zero bytes = omega arith
fewer (suc k) [] = omega arith
fewer (suc k) (b ∷ bytes) = first_fewer (continuation_len b) (lead_bits b) k bytes

-- bytes after a whole character
one_more : (c : ℕ) (bytes : List ℕ) → length (chars_after zero c bytes) ≡ 1 + length (chars bytes)
unfolding chars
one_more c [] = omega arith
one_more c (b ∷ bytes) = omega arith

leads_one : (b : ℕ) (bytes rest : List ℕ) (n : ℕ) → continuation_len b ≡ n → ((c : ℕ) → length (chars_after n c bytes) ≡ 1 + length (chars rest)) → length (chars (b ∷ bytes)) ≡ 1 + length (chars rest)
unfolding chars
leads_one b bytes rest n is h = subst (λ m. length (chars_after m (lead_bits b) bytes) ≡ 1 + length (chars rest)) (sym is) (h (lead_bits b))

alone : (b : ℕ) → b < 128 → continuation_len b ≡ 0
alone b low = rw (lt-ltb b 128 low) refl

before_one : (b : ℕ) → 128 ≤ b → b < 224 → continuation_len b ≡ 1
before_one b high low = rw (le-ltb b 128 high, lt-ltb b 224 low) refl

before_two : (b : ℕ) → 224 ≤ b → b < 240 → continuation_len b ≡ 2
before_two b high low = rw (le-ltb b 128 (omega (arith, high)), le-ltb b 224 high, lt-ltb b 240 low) refl

before_three : (b : ℕ) → 240 ≤ b → continuation_len b ≡ 3
before_three b high = rw (le-ltb b 128 (omega (arith, high)), le-ltb b 224 (omega (arith, high)), le-ltb b 240 high) refl

-- the bytes of any number are one character
encoded_one : (c : ℕ) (rest : List ℕ) → length (chars (encode_utf8 c ++ rest)) ≡ 1 + length (chars rest)
unfolding encode_utf8
encoded_one c rest =
    by_test IsOne (nat_lt c 128) _ _
    (λ low. leads_one c rest rest 0 (alone c (ltb-true c 128 low)) (λ d. one_more d rest))
    (λ high. by_test IsOne (nat_lt c 2048) _ _
    (λ low. leads_one (192 + c / 64) _ rest 1 (before_one (192 + c / 64) (omega arith) (omega (arith, ltb-true c 2048 low))) (λ d. one_more _ rest))
    (λ high. by_test IsOne (nat_lt c 65536) _ _
    (λ low. leads_one (224 + c / 4096) _ rest 2 (before_two (224 + c / 4096) (omega arith) (omega (arith, ltb-true c 65536 low))) (λ d. one_more _ rest))
    (λ high. leads_one (240 + c / 262144) _ rest 3 (before_three (240 + c / 262144) (omega arith)) (λ d. one_more _ rest))))
  where
    IsOne : List ℕ → Type 0
    IsOne bytes = length (chars (bytes ++ rest)) ≡ 1 + length (chars rest)

pub encoded_as_many : (line : List ℕ) → length (chars (encode_utf8_all line)) ≡ length line
unfolding chars
encoded_as_many [] = omega arith
encoded_as_many (c ∷ line) = omega (arith, encoded_one c (encode_utf8_all line), encoded_as_many line)

pub column_within : (line : List ℕ) (byte : ℕ) → column_of_byte (encode_utf8_all line) byte ≤ length line
column_within line byte = omega (arith, fewer byte (encode_utf8_all line), encoded_as_many line)

-- ---- the starts of matches

-- the position is one of these lines, the first of which has the given row
abbrev IsFrom : ℕ → List (List ℕ) → Place → Type 0
IsFrom row rows place = (k : ℕ) × (place.0 ≡ row + k) × IsPlaceOf rows (k, place.1)

all_columns : (line : List ℕ) (spans : List (ℕ × ℕ)) → All (λ column. column ≤ length line) (map (λ s. column_of_byte (encode_utf8_all line) s.0) spans)
all_columns line spans =
    All-map (λ column. column ≤ length line) (λ s. column_of_byte (encode_utf8_all line) s.0) spans (λ k d within. column_within line _)

starts_are_places : (pattern : List ℕ) (row : ℕ) (rows : List (List ℕ)) → All (IsFrom row rows) (starts_from (match_columns pattern) row (map encode_utf8_all rows))
starts_are_places pattern row [] = All-nil (IsFrom row [])
starts_are_places pattern row (line ∷ rows) =
    let columns = match_columns pattern (encode_utf8_all line) in
    All-append (IsFrom row (line ∷ rows)) (map (λ column. (row, column)) columns) (starts_from (match_columns pattern) (row + 1) (map encode_utf8_all rows))
    (All-map (IsFrom row (line ∷ rows)) (λ column. (row, column)) columns
    (All-weaker (λ column. column ≤ length line) (λ column. IsFrom row (line ∷ rows) (row, column)) (λ column within. (0, omega arith, (omega arith, within))) columns
    (all_columns line (match_spans pattern (encode_utf8_all line)))))
    (All-weaker (IsFrom (row + 1) rows) (IsFrom row (line ∷ rows)) (λ place h. (suc h.0, omega (arith, h.1), (omega (arith, h.2.0), h.2.1))) (starts_from (match_columns pattern) (row + 1) (map encode_utf8_all rows))
    (starts_are_places pattern (row + 1) rows))

starts_are_in_text : (pattern : Option (List ℕ)) (text : List Symbol) → All (IsPlace text) (starts_in pattern text)
starts_are_in_text None text = All-nil (IsPlace text)
starts_are_in_text (Some pattern) text =
    All-weaker (IsFrom 0 (lines text)) (IsPlace text) from_first (starts_in (Some pattern) text) (starts_are_places pattern 0 (lines text))
  where
    from_first : (place : Place) → IsFrom 0 (lines text) place → IsPlace text place
    from_first place h =
        let same : h.0 ≡ place.0 = omega (arith, h.1) in
        subst (λ row. IsPlaceOf (lines text) (row, place.1)) same h.2

-- ---- the one that is found

pub found_has : {X : Type 0} (P : X → Type 0) (test : X → Bool) (xs : List X) → All P xs → IfSome (find test xs) P
found_has P test [] all = tt
found_has P test (x ∷ xs) all =
    by_test (λ found. IfSome found P) (test x) (Some x) (find test xs)
    (λ passes. All-head P x xs all)
    (λ fails. found_has P test xs (All-tail P x xs all))

first_has : {X : Type 0} (P : X → Type 0) (xs : List X) → All P xs → IfSome (slice_get xs 0) P
first_has P [] all = tt
first_has P (x ∷ xs) all = All-head P x xs all

one_has : {X : Type 0} (P : X → Type 0) (one other : Option X) → IfSome one P → IfSome other P → IfSome (option_or one other) P
one_has P None other h k = k
one_has P (Some x) other h k = h

match_starts_are_in_text : (state : State) → All (IsPlace state.document.text) (match_starts state)
match_starts_are_in_text state =
    unit_all (IsPlace state.document.text) state.settings.cursor_unit state.pattern state.document.text (starts_are_in_text state.pattern state.document.text)

-- what is known of all starts is known of the one that is found
pub found_of_all : (P : Place → Type 0) (direction : Direction) (state : State) (at_cursor : Bool) → All P (match_starts state) → IfSome (found_match direction state at_cursor) P
found_of_all P direction state at_cursor all =
    let starts = along direction (match_starts state) in
    let each = All-along P direction (match_starts state) all in
    one_has P (find (is_ahead direction state.document.cursor at_cursor) starts) (slice_get starts 0)
    (found_has P (is_ahead direction state.document.cursor at_cursor) starts each) (first_has P starts each)

pub match_is_place : (direction : Direction) (state : State) (at_cursor : Bool) → IfSome (found_match direction state at_cursor) (IsPlace state.document.text)
match_is_place direction state at_cursor =
    found_of_all (IsPlace state.document.text) direction state at_cursor (match_starts_are_in_text state)
