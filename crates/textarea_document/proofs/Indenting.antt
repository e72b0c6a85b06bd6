-- What is replaced at the starts of lines.
use Rattle.std.proofs.Common.{◌≡◌, ◌∙◌, ◌<◌, ◌≤◌, ◌+◌, ◌==◌, ℕ, zero, suc, Bool, true, false, cond, not, List, [], ◌∷◌, ◌++◌, String, length, drop, take, get_or, replicate, Option, None, Some, IfSome, option_map, ap, arith, refl, subst, sym}
use Rattle.std.specs.Prelude.{All}
use Rattle.std.proofs.lemmas.Bool.{eqb-true}
use Rattle.std.proofs.lemmas.List.{drop_all, drop_more, nil_from_length}
use Rattle.std.proofs.lemmas.List.Elements.{All-cons, All-nil}
use Rattle.std.proofs.lemmas.Str.{chars-IsAscii}
use Rattle.std.proofs.lemmas.Str.Ascii.{IsAscii-from_all}
use Rattle.textarea_text.proofs.PlaceLemmas.{length-fragment_line}
use Rattle.textarea_data.specs.declared.cursor.CursorUnit.{CursorUnit}
use Rattle.textarea_document.specs.Prelude.{AtomicRange, DocumentState, Place, Symbol, characters, chars, line_of, lines_of, size_limit, size_of}
use Rattle.textarea_document.specs.Indenting.{free_spaces, is_free_space, line_stretches, lines_shifted, moved_near, replaced_columns, shifted_over, shifted_place, shifts_lines, stretch_from, stretches_from}
use Rattle.textarea_document.specs.Replacing.{all_replaced}

-- ---- the characters of a tab

all_spaces : (n : ℕ) → All (λ b. b < 128) (replicate n 32)
all_spaces zero = All-nil (λ b. b < 128)
all_spaces (suc n) = All-cons (λ b. b < 128) 32 (replicate n 32) (omega arith) (all_spaces n)

pub chars_of_spaces : (n : ℕ) → chars (replicate n 32) ≡ replicate n 32
chars_of_spaces n = chars-IsAscii (replicate n 32) (IsAscii-from_all (replicate n 32) (all_spaces n))

pub chars_of_tab : chars (9 ∷ []) ≡ 9 ∷ []
chars_of_tab = chars-IsAscii (9 ∷ []) (IsAscii-from_all (9 ∷ []) (All-cons (λ b. b < 128) 9 [] (omega arith) (All-nil (λ b. b < 128))))

-- ---- spaces at the start of a line

by_space : (ranges : List AtomicRange) (row column c : ℕ) (line : List ℕ) (is : Bool) → column < length line → c ≡ get_or line column c → is_free_space ranges (row, column) c ≡ is
    → free_spaces ranges row column (drop column line) ≡ cond is (free_spaces ranges row (column + 1) (drop (column + 1) line) + 1) 0
by_space ranges row column c line is within at e =
    ap (free_spaces ranges row column) (drop_more line column c within ∙ ap (λ d. d ∷ drop (column + 1) line) (sym at))
    ∙ ap (λ (b : Bool). cond b (free_spaces ranges row (column + 1) (drop (column + 1) line) + 1) 0) e

-- a space more
pub space_more : (ranges : List AtomicRange) (row column c whole : ℕ) (line : List ℕ) → column < length line → c ≡ get_or line column c → is_free_space ranges (row, column) c ≡ true
    → column + free_spaces ranges row column (drop column line) ≡ whole → column + 1 + free_spaces ranges row (column + 1) (drop (column + 1) line) ≡ whole
space_more ranges row column c whole line within at free h =
    let more : free_spaces ranges row column (drop column line) ≡ free_spaces ranges row (column + 1) (drop (column + 1) line) + 1 = by_space ranges row column c line true within at free in
    omega (arith, h, more)

-- another character
pub space_none : (ranges : List AtomicRange) (row column c whole : ℕ) (line : List ℕ) → column < length line → c ≡ get_or line column c → is_free_space ranges (row, column) c ≡ false
    → column + free_spaces ranges row column (drop column line) ≡ whole → column ≡ whole
space_none ranges row column c whole line within at free h =
    let none : free_spaces ranges row column (drop column line) ≡ 0 = by_space ranges row column c line false within at free in
    omega (arith, h, none)

pub spaces_done : (ranges : List AtomicRange) (row column whole : ℕ) (line : List ℕ) → length line ≤ column
    → column + free_spaces ranges row column (drop column line) ≡ whole → column ≡ whole
spaces_done ranges row column whole line past h =
    let none : free_spaces ranges row column (drop column line) ≡ 0 = ap (free_spaces ranges row column) (drop_all column line past) in
    omega (arith, h, none)

-- ---- the stretches of lines

pub size_left : {Z : Type 0} (lines : List (String Z)) (i : ℕ) → i < length lines → length (line_of (lines_of lines) i) + 1 + size_of (drop (i + 1) lines) ≤ size_of (drop i lines)
size_left [] i within = absurd (omega (arith, within))
size_left (line ∷ lines) zero within = omega (arith, length-fragment_line (line ∷ []) 0 (omega arith))
size_left (line ∷ lines) (suc i) within =
    let next : suc (i + 1) ≡ suc i + 1 = omega arith in
    subst (λ n. length (line_of (lines_of lines) i) + 1 + size_of (drop n (line ∷ lines)) ≤ size_of (drop i lines)) next (size_left lines i (omega (arith, within)))

-- one line more
pub stretches_more : (document : DocumentState) (outdents : Option CursorUnit) (row before : ℕ) (rows : List (List ℕ)) (so_far : List (ℕ × ℕ)) → row < length rows
    → so_far ++ stretches_from document outdents row before (drop row rows)
    ≡ so_far ++ (stretch_from before (replaced_columns document outdents row (line_of rows row)) ++ stretches_from document outdents (row + 1) (before + length (line_of rows row) + 1) (drop (row + 1) rows))
stretches_more document outdents row before rows so_far within =
    ap (λ (left : List (List ℕ)). so_far ++ stretches_from document outdents row before left) (drop_more rows row [] within)

pub room_for : (before : ℕ) (found : Option ℕ) → before ≤ size_limit → IfSome found (λ count. count ≤ 255) → IfSome found (λ count. before + count ≤ 18446744073709551615)
room_for before None small within = tt
room_for before (Some count) small within = omega (arith, small, within)

-- ---- lines that are indented or outdented

pub shifts_is : (document : DocumentState) (outdents : Option CursorUnit) (stretches : List (ℕ × ℕ)) (empty : Bool) → stretches ≡ line_stretches document outdents → (length stretches == 0) ≡ empty
    → not empty ≡ shifts_lines document outdents
shifts_is document outdents stretches empty is e = ap not (sym e) ∙ ap (λ (s : List (ℕ × ℕ)). not (length s == 0)) is

-- without stretches nothing changes
pub none_shifted : (document : DocumentState) (outdents : Option CursorUnit) (stretches : List (ℕ × ℕ)) (tab : List ℕ) (now : ℕ) → stretches ≡ line_stretches document outdents → (length stretches == 0) ≡ true
    → document ≡ lines_shifted document outdents tab now
unfolding shifted_over
none_shifted document outdents stretches tab now is e =
    ap (λ (s : List (ℕ × ℕ)). shifted_over document outdents s tab now) (sym (nil_from_length stretches (eqb-true (length stretches) 0 e)) ∙ is)

some_shifted : (document : DocumentState) (outdents : Option CursorUnit) (stretches : List (ℕ × ℕ)) (tab : List ℕ) (now : ℕ) → (length stretches == 0) ≡ false
    → moved_near (all_replaced document stretches (characters tab) now) (shifted_place document outdents (length tab) document.cursor) (option_map (shifted_place document outdents (length tab)) document.anchor)
    ≡ shifted_over document outdents stretches tab now
unfolding shifted_over
some_shifted document outdents [] tab now some = absurd cc
some_shifted document outdents (stretch ∷ rest) tab now some = refl

-- with some they are replaced, and then cursor and anchor move
pub shifted_as : (document replaced new : DocumentState) (outdents : Option CursorUnit) (stretches : List (ℕ × ℕ)) (tab : List ℕ) (symbols : List Symbol) (columns now : ℕ) (cursor : Place) (anchor : Option Place)
    → stretches ≡ line_stretches document outdents → (length stretches == 0) ≡ false → symbols ≡ characters tab → columns ≡ length tab → cursor ≡ shifted_place document outdents columns document.cursor
    → anchor ≡ option_map (shifted_place document outdents columns) document.anchor → replaced ≡ all_replaced document stretches symbols now → new ≡ moved_near replaced cursor anchor
    → new ≡ lines_shifted document outdents tab now
shifted_as document replaced new outdents stretches tab symbols columns now cursor anchor stretches_are some symbols_are columns_are cursor_is anchor_is replaced_is new_is =
    new_is
    ∙ ap (λ (d : DocumentState). moved_near d cursor anchor) replaced_is
    ∙ ap (λ (s : List Symbol). moved_near (all_replaced document stretches s now) cursor anchor) symbols_are
    ∙ ap (λ (p : Place). moved_near (all_replaced document stretches (characters tab) now) p anchor) cursor_is
    ∙ ap (λ (p : Option Place). moved_near (all_replaced document stretches (characters tab) now) (shifted_place document outdents columns document.cursor) p) anchor_is
    ∙ ap (λ n. moved_near (all_replaced document stretches (characters tab) now) (shifted_place document outdents n document.cursor) (option_map (shifted_place document outdents n) document.anchor)) columns_are
    ∙ some_shifted document outdents stretches tab now some
    ∙ ap (λ (s : List (ℕ × ℕ)). shifted_over document outdents s tab now) stretches_are
