-- A line of several, in which a text replaces some characters.
use Rattle.std.proofs.Common.{◌≡◌, ℕ, ◌≤◌, List, [], ◌∷◌, ◌++◌, length, take, drop, set, sym, ap, ◌∙◌, arith, add-one, get_or, subst, encode_utf8_all, String, string_bytes, Result, Ok, Err}
use Rattle.textarea_text.proofs.Prelude.{common_steps, append-nil, append_assoc, length-append, length-map, length-set, length-take-le, set_split, take_at, get_or-set_at, encodes-append, encodes-chars}
use Rattle.textarea_text.specs.Prelude.{OnOk, OnErr, chars, IsUtf8, IsCharBoundary, characters, characters_of, joined, lines_of, text_of, offset_at, Place, IsPlaceOf, changed}
use Rattle.textarea_text.proofs.Columns.{offset_in, take_offset, drop_offset, chars_from_bytes, IsCharBoundary-column}
use Rattle.textarea_text.proofs.Splices.{characters-append}
use Rattle.textarea_text.proofs.StringRows.{line_at, row_within, rows_in_place}

-- the column is within the line that was read
pub column_within : {Z : Type 0} (items : List (String Z)) (place : Place) (line : String Z) → IsPlaceOf (lines_of items) place → line ≡ get_or items place.0 line → place.1 ≤ length (characters_of line)
column_within items place line h read = omega (arith, h.1, ap length (line_at items place.0 line (row_within items place h) read))

-- the characters of a line once a text replaced those between two columns
pub chars_between : (bs more new : List ℕ) (column later from to : ℕ) → IsUtf8 bs → IsUtf8 more → IsUtf8 new → from ≡ offset_in (chars bs) column →
    to ≡ offset_in (chars bs) later → new ≡ (take from bs ++ more) ++ drop to bs → chars new ≡ take column (chars bs) ++ (chars more ++ drop later (chars bs))
chars_between bs more new column later from to text text' text'' e e' is =
    let head = take column (chars bs) in
    let tail = drop later (chars bs) in
    chars_from_bytes new (head ++ (chars more ++ tail)) text''
    (is
    ∙ ap (λ t. (t ++ more) ++ drop to bs) (ap (λ n. take n bs) e ∙ take_offset bs column text)
    ∙ ap (λ t. (encode_utf8_all head ++ more) ++ t) (ap (λ n. drop n bs) e' ∙ drop_offset bs later text)
    ∙ append_assoc (encode_utf8_all head) more (encode_utf8_all tail)
    ∙ ap (λ t. encode_utf8_all head ++ (t ++ encode_utf8_all tail)) (sym (encodes-chars more text'))
    ∙ ap (λ t. encode_utf8_all head ++ t) (sym (encodes-append (chars more) tail))
    ∙ sym (encodes-append head (chars more ++ tail)))

-- the text after the replacement
pub line_changed : {Z : Type 0} (items : List (String Z)) (line new : String Z) (start : Place) (later : ℕ) (more : List ℕ) → IsPlaceOf (lines_of items) start →
    IsPlaceOf (lines_of items) (start.0, later) → line ≡ get_or items start.0 line →
    characters_of new ≡ take start.1 (characters_of line) ++ (more ++ drop later (characters_of line)) →
    text_of (set items start.0 new) ≡ changed (text_of items) start (start.0, later) (characters more)
line_changed items line new start later more h h' read e =
    let within = row_within items start h in
    let here : get_or (lines_of items) start.0 [] ≡ characters_of line = line_at items start.0 line within read in
    let head = take start.1 (characters_of line) in
    let tail = drop later (characters_of line) in
    let is : joined (lines_of (new ∷ [])) ≡ characters (take start.1 (get_or (lines_of items) start.0 [])) ++ (characters more ++ characters (drop later (get_or (lines_of items) start.0 []))) =
    append-nil (characters (characters_of new)) ∙ ap characters e ∙ characters-append head (more ++ tail)
    ∙ ap (λ t. characters head ++ t) (characters-append more tail)
    ∙ ap (λ l. characters (take start.1 l) ++ (characters more ++ characters (drop later l))) (sym here) in
    ap text_of (set_split items start.0 new within ∙ ap (λ n. take start.0 items ++ new ∷ drop n items) (sym (add-one start.0)))
    ∙ rows_in_place items (new ∷ []) start (start.0, later) start.0 1 (characters more) h h' (omega arith) (omega arith) (omega arith, is)

-- the byte offset of a position, as `byte_offset` returns it, in the line that was read
pub offset_read : {Z : Type 0} (items : List (String Z)) (place : Place) (line : String Z) (text : List ℕ) (offset : ℕ) → IsPlaceOf (lines_of items) place →
    line ≡ get_or items place.0 line → text ≡ string_bytes line → offset ≡ length (encode_utf8_all (take place.1 (chars text))) → offset ≡ offset_at (lines_of items) place
offset_read items place line text offset h read same e =
    e ∙ ap (λ t. offset_in (chars t) place.1) same ∙ ap (λ t. offset_in t place.1) (sym (line_at items place.0 line (row_within items place h) read))

-- the byte offset of a position in the line that was read
pub offset_of_place : {Z : Type 0} (items : List (String Z)) (place : Place) (line : String Z) (offset : ℕ) → IsPlaceOf (lines_of items) place → line ≡ get_or items place.0 line →
    offset ≡ offset_at (lines_of items) place → offset ≡ offset_in (characters_of line) place.1
offset_of_place items place line offset h read e =
    e ∙ ap (λ t. offset_in t place.1) (line_at items place.0 line (row_within items place h) read)

-- the position where the replacement begins stays one, with the same byte offset
pub place_unchanged : {Z : Type 0} (items : List (String Z)) (line new : String Z) (start : Place) (later : ℕ) (more : List ℕ) (offset : ℕ) → IsPlaceOf (lines_of items) start →
    line ≡ get_or items start.0 line → offset ≡ offset_at (lines_of items) start →
    characters_of new ≡ take start.1 (characters_of line) ++ (more ++ drop later (characters_of line)) →
    IsPlaceOf (lines_of (set items start.0 new)) start × (offset ≡ offset_at (lines_of (set items start.0 new)) start)
place_unchanged items line new start later more offset h read e is =
    let within = column_within items start line h read in
    let offset_is = offset_of_place items start line offset h read e in
    let here = get_or-set_at items start.0 start.0 new new in
    grind (arith, common_steps, row_within items start h, length-set, line_at, here, length-take-le start.1 (characters_of line) within, take_at, length-map, length-append)

-- what the calls of `String` require
pub split_point : (bs : List ℕ) (column offset : ℕ) → IsUtf8 bs → offset ≡ offset_in (chars bs) column → IsCharBoundary bs offset
split_point bs column offset text e = subst (IsCharBoundary bs) (sym e) (IsCharBoundary-column bs column text)

-- a call that never fails
pub always_ok : {T E : Type 0} (r : Result T E) (P : Type 0) → OnOk r P → OnErr r ⊥ → P
always_ok (Ok x) P h never = h
always_ok (Err e) P h never = absurd never
