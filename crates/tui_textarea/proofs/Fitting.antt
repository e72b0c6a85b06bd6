-- How many symbols lines and stretches have, and what fits of a text.
use Rattle.std.proofs.Common.{◌≡◌, ◌∙◌, ℕ, ◌+◌, ◌-◌, ◌*◌, ◌/◌, ◌<◌, ◌≤◌, ◌||◌, ◌^◌, ◌==◌, Bool, false, List, [], ◌∷◌, ◌++◌, String, ap, arith, drop, get_or, length, min, subst, sym, take, take-append-drop, Option, None, Some}
use Rattle.std.specs.Prelude.{max, nat_le}
use Rattle.std.proofs.Math.Nat.{le-div_iff_mul-le, mul_comm}
use Rattle.std.proofs.lemmas.Bool.Decides.{nat_tests}
use Rattle.std.proofs.lemmas.Nat.{mul-le}
use Rattle.std.proofs.lemmas.List.{drop-map, drop-take, length-append, length-drop, length-map, length-take, map-append, take-map, take_more}
use Rattle.textarea_clusters.specs.Edges.{edge_back}
use Rattle.textarea_data.specs.declared.cursor.CursorUnit.{CursorUnit}
use Rattle.textarea_document.specs.DocumentState.{DocumentState}
use Rattle.textarea_document.specs.Indenting.{line_stretches, replaced_columns, stretch_from, stretches_from}
use Rattle.textarea_document.specs.Selection.{first_selected_row, last_selected_row}
use Rattle.textarea_text.specs.Between.{symbols_between}
use Rattle.textarea_text.specs.Place.{IsPlace, Place, index_of, line_of, place_of}
use Rattle.textarea_text.specs.Size.{size_of, weight}
use Rattle.textarea_text.specs.Text.{Symbol, characters, characters_of, following, lines, lines_of, text_of}
use Rattle.textarea_text.proofs.BetweenLemmas.{up_to_from_index}
use Rattle.textarea_text.proofs.PlaceLemmas.{length-fragment_line}
use Rattle.textarea_text.proofs.Sizes.{size_of-append, size_of_text, weight-append}
use Rattle.textarea_text.proofs.Splices.{following-append, length-characters, lines-joined}
use Rattle.textarea_text.proofs.TextPlaces.{joined-lines}
use Rattle.tui_textarea.specs.Fitting.{beginning, fits_each, is_allowed, removed_by}
use Rattle.tui_textarea.specs.State.{State}

-- ---- the symbols of lines

-- lines before which there are breaks have at most as many symbols as bytes and breaks
pub length-following-le : {Z : Type 0} (lines : List (String Z)) → length (following (lines_of lines)) ≤ size_of lines
length-following-le [] = omega arith
length-following-le (line ∷ rest) =
    omega (arith, length-append (characters (characters_of line)) (following (lines_of rest)), length-characters (characters_of line), length-fragment_line (line ∷ []) 0 (omega arith), length-following-le rest)

-- the symbols of a text, with a break before it
pub length-text : {Z : Type 0} (lines : List (String Z)) → 0 < length lines → length (text_of lines) + 1 ≡ length (following (lines_of lines))
length-text [] some = absurd (omega arith)
length-text (line ∷ rest) some = omega arith

pub length-text-le : {Z : Type 0} (lines : List (String Z)) → length (text_of lines) ≤ length (following (lines_of lines))
length-text-le [] = omega arith
length-text-le (line ∷ rest) = omega arith

-- the first line, and the others
pub length-first-line : {Z : Type 0} (lines : List (String Z)) (first : String Z) (rest : List (String Z)) → lines ≡ first ∷ rest →
    length (text_of lines) ≡ length (characters_of first) + length (following (lines_of rest))
length-first-line lines first rest e =
    ap (λ t. length (text_of t)) e ∙ length-append (characters (characters_of first)) (following (lines_of rest)) ∙ ap (λ n. n + length (following (lines_of rest))) (length-characters (characters_of first))

-- one line more
pub length-following-more : {Z : Type 0} (lines : List (String Z)) (i : ℕ) (line : String Z) → i < length lines → line ≡ get_or lines i line →
    length (following (lines_of (take (i + 1) lines))) ≡ length (following (lines_of (take i lines))) + 1 + length (characters_of line)
length-following-more lines i line within e =
    let taken : take (i + 1) lines ≡ take i lines ++ line ∷ [] = take_more lines i line within ∙ ap (λ l. take i lines ++ l ∷ []) (sym e) in
    let split : following (lines_of (take (i + 1) lines)) ≡ following (lines_of (take i lines)) ++ following (lines_of (line ∷ [])) =
    ap (λ t. following (lines_of t)) taken ∙ ap following (map-append characters_of (take i lines) (line ∷ [])) ∙ following-append (lines_of (take i lines)) (lines_of (line ∷ [])) in
    omega (
      arith,
      ap length split,
      length-append (following (lines_of (take i lines))) (following (lines_of (line ∷ []))),
      length-append (characters (characters_of line)) [],
      length-characters (characters_of line),
    )

-- some of the lines have no more symbols than all
pub length-following-take : {Z : Type 0} (lines : List (String Z)) (i : ℕ) → length (following (lines_of (take i lines))) ≤ length (following (lines_of lines))
length-following-take lines i =
    let split : following (lines_of lines) ≡ following (lines_of (take i lines)) ++ following (lines_of (drop i lines)) =
    ap (λ t. following (lines_of t)) (sym (take-append-drop i lines)) ∙ ap following (map-append characters_of (take i lines) (drop i lines)) ∙ following-append (lines_of (take i lines)) (lines_of (drop i lines)) in
    omega (arith, ap length split, length-append (following (lines_of (take i lines))) (following (lines_of (drop i lines))))

-- ---- some lines of a text

-- the lines from one row on, so many of them, are no larger than all
pub size-part-le : {Z : Type 0} (lines : List (String Z)) (row count : ℕ) → size_of (take count (drop row lines)) ≤ size_of lines
size-part-le lines row count =
    omega (
      arith,
      size_of-append (take count (drop row lines)) (drop count (drop row lines)),
      ap size_of (take-append-drop count (drop row lines)),
      size_of-append (take row lines) (drop row lines),
      ap size_of (take-append-drop row lines),
    )

-- their rows
pub lines_of_part : {Z : Type 0} (lines part : List (String Z)) (rows : List (List ℕ)) (first last : ℕ) → first ≤ last → part ≡ take (last + 1 - first) (drop first lines) → lines_of lines ≡ rows →
    lines_of part ≡ drop first (take (last + 1) rows)
lines_of_part lines part rows first last ordered is e =
    let count = last + 1 - first in
    ap lines_of is ∙ sym (take-map characters_of count (drop first lines)) ∙ ap (take count) (sym (drop-map characters_of first lines)) ∙ ap (λ (t : List (List ℕ)). take count (drop first t)) e
    ∙ sym (drop-take first count rows) ∙ ap (λ n. drop first (take n rows)) (omega arith)

-- the symbols of the duplicate of a selection's lines, or of the cursor's line
abbrev pub duplicate_length : DocumentState → ℕ
duplicate_length document = length (following (drop (first_selected_row document) (take (last_selected_row document + 1) (lines document.text))))

pub duplicate_length_is : {Z : Type 0} (document : DocumentState) (lines_now part : List (String Z)) (first last count : ℕ) → first ≤ last → last < length (lines document.text) →
    lines_of lines_now ≡ lines document.text → part ≡ take (last + 1 - first) (drop first lines_now) → first ≡ first_selected_row document → last ≡ last_selected_row document →
    count ≡ length (text_of part) → count + 1 ≡ duplicate_length document
duplicate_length_is document lines_now part first last count ordered within rows is first_is last_is counted =
    let some : 0 < length part =
    omega (arith, ap length is, length-take (last + 1 - first) (drop first lines_now), length-drop first lines_now, length-map lines_now characters_of, ap length rows) in
    let all : length (following (lines_of part)) ≡ length (following (drop first (take (last + 1) (lines document.text)))) =
    ap (λ (t : List (List ℕ)). length (following t)) (lines_of_part lines_now part (lines document.text) first last ordered is rows) in
    let here : length (following (drop first (take (last + 1) (lines document.text)))) ≡ length (following (drop (first_selected_row document) (take (last + 1) (lines document.text)))) =
    ap (λ n. length (following (drop n (take (last + 1) (lines document.text))))) first_is in
    let there : length (following (drop (first_selected_row document) (take (last + 1) (lines document.text)))) ≡ duplicate_length document =
    ap (λ n. length (following (drop (first_selected_row document) (take (n + 1) (lines document.text))))) last_is in
    omega (arith, counted, length-text part some, all, here, there)

-- ---- the symbols between two positions

-- of two positions the first one is in no later row
pub rows_ordered : (text : List Symbol) (from to : Place) → IsPlace text from → IsPlace text to → index_of text from ≤ index_of text to → from.0 ≤ to.0
rows_ordered text from to h h' ordered =
    (up_to_from_index (lines text) from to h h' (subst (λ (t : List Symbol). index_of t from ≤ index_of t to) (sym (joined-lines text)) ordered)).0

pub length-between-le : (text : List Symbol) (from to : Place) → length (symbols_between text from to) ≤ length text
length-between-le text from to =
    omega (arith, length-take (index_of text to - index_of text from) (drop (index_of text from) text), length-drop (index_of text from) text)

weight-between-le : (text : List Symbol) (from to : Place) → weight (symbols_between text from to) ≤ weight text
weight-between-le text from to =
    let i = index_of text from in
    let rest = drop i text in
    let count = index_of text to - i in
    omega (
      arith,
      weight-append (take count rest) (drop count rest),
      ap weight (take-append-drop count rest),
      weight-append (take i text) rest,
      ap weight (take-append-drop i text),
    )

-- a copy of the text between two positions is no larger than the text
pub size-between-le : {Z Y : Type 0} (lines : List (String Z)) (part : List (String Y)) (from to : Place) → 0 < length lines → 0 < length part → text_of part ≡ symbols_between (text_of lines) from to →
    size_of part ≤ size_of lines
size-between-le lines part from to some some_part is =
    omega (arith, size_of_text lines some, size_of_text part some_part, ap weight is, weight-between-le (text_of lines) from to)

-- ---- the beginning of a text

pub is_filled : (count : ℕ) (empty : Bool) → empty ≡ (count == 0) → empty ≡ false → 0 < count
is_filled count empty is filled = grind (arith, nat_tests)

pub beginning_is : {Z : Type 0} (fragment_lines : List (String Z)) (most : ℕ) (place : Place) (line : List ℕ) (end : ℕ) → 0 < length fragment_lines →
    place ≡ place_of (text_of fragment_lines) (min (index_of (text_of fragment_lines) (0, 0) + most) (length (text_of fragment_lines))) → line ≡ line_of (lines_of fragment_lines) place.0 → end ≡ edge_back line place.1 →
    symbols_between (text_of fragment_lines) (0, 0) (place.0, end) ≡ beginning (text_of fragment_lines) most
beginning_is fragment_lines most place line end some is line_is end_is =
    let text = text_of fragment_lines in
    let rows : lines text ≡ lines_of fragment_lines = lines-joined (lines_of fragment_lines) (omega (arith, length-map fragment_lines characters_of)) in
    let edge : end ≡ edge_back (line_of (lines text) place.0) place.1 = end_is ∙ ap (λ (l : List ℕ). edge_back l place.1) line_is ∙ ap (λ (r : List (List ℕ)). edge_back (line_of r place.0) place.1) (sym rows) in
    ap (λ n. symbols_between text (0, 0) (place.0, n)) edge
    ∙ ap (λ (p : Place). symbols_between text (0, 0) (p.0, edge_back (line_of (lines text) p.0) p.1)) (is ∙ ap (λ n. place_of text (min n (length text))) (omega arith))

-- ---- stretches

removed_by-append : (above below : List (ℕ × ℕ)) → removed_by (above ++ below) ≡ removed_by above + removed_by below
removed_by-append [] below = omega arith
removed_by-append (stretch ∷ above) below = omega (arith, removed_by-append above below)

-- one stretch more
pub removed_by-more : (stretches : List (ℕ × ℕ)) (i : ℕ) → i < length stretches →
    removed_by (take (i + 1) stretches) ≡ removed_by (take i stretches) + ((get_or stretches i (0, 0)).1 - (get_or stretches i (0, 0)).0)
removed_by-more stretches i within =
    omega (arith, ap removed_by (take_more stretches i (0, 0) within), removed_by-append (take i stretches) (get_or stretches i (0, 0) ∷ []))

-- a text of so many symbols fits in place of each of `count` stretches, if it has at most its share
-- of the room for all
share_is : (count symbols others removed maximum : ℕ) → 0 < count →
    nat_le symbols (max (maximum - others) removed / count) ≡ (nat_le (count * symbols) removed || nat_le (others + count * symbols) maximum)
share_is count symbols others removed maximum some =
    let room = max (maximum - others) removed in
    let shares = le-div_iff_mul-le {k = count} {x = symbols} {y = room} some in
    by_tests (count * symbols) symbols (room / count) others removed maximum
    (λ less. subst (λ (n : ℕ). n ≤ room) (mul_comm symbols count) (shares.0 less))
    (λ less. shares.1 (subst (λ (n : ℕ). n ≤ room) (mul_comm count symbols) less))
  where
    by_tests : (product symbols share others removed maximum : ℕ) → (symbols ≤ share → product ≤ max (maximum - others) removed) → (product ≤ max (maximum - others) removed → symbols ≤ share) →
        nat_le symbols share ≡ (nat_le product removed || nat_le (others + product) maximum)
    by_tests product symbols share others removed maximum from to = grind (arith, nat_tests, from, to)

pub fits_each_is : (state : State) (stretches : List (ℕ × ℕ)) (symbols : List Symbol) (maximum : ℕ) → 0 < length stretches → state.settings.max_chars ≡ Some maximum →
    nat_le (length symbols) (max (maximum - (length state.document.text - removed_by stretches)) (removed_by stretches) / length stretches) ≡ fits_each state stretches symbols
fits_each_is state stretches symbols maximum some is =
    let removed = removed_by stretches in
    let others = length state.document.text - removed in
    let inserted = length stretches * length symbols in
    share_is (length stretches) (length symbols) others removed maximum some
    ∙ ap (λ (m : Option ℕ). nat_le inserted removed || is_allowed m (others + inserted)) (sym is)

-- ---- lines that are indented

-- at most one stretch for each line
stretch_from-le : (before : ℕ) (count : Option ℕ) → length (stretch_from before count) ≤ 1
stretch_from-le before None = omega arith
stretch_from-le before (Some count) = omega arith

stretches_from-le : (document : DocumentState) (outdents : Option CursorUnit) (row before : ℕ) (rows : List (List ℕ)) → length (stretches_from document outdents row before rows) ≤ length rows
stretches_from-le document outdents row before [] = omega arith
stretches_from-le document outdents row before (line ∷ rest) =
    let replaced = replaced_columns document outdents row line in
    let next = before + length line + 1 in
    omega (
      arith,
      length-append (stretch_from before replaced) (stretches_from document outdents (row + 1) next rest),
      stretch_from-le before replaced,
      stretches_from-le document outdents (row + 1) next rest,
    )

pub line_stretches-le : (document : DocumentState) (outdents : Option CursorUnit) → length (line_stretches document outdents) ≤ length (lines document.text)
line_stretches-le document outdents = stretches_from-le document outdents 0 0 (lines document.text)

-- the tabs of so few stretches can be counted
pub product-le : (count columns : ℕ) → count ≤ 2 ^ 48 → columns ≤ 255 → count * columns ≤ 2 ^ 48 * 255
product-le count columns few small = mul-le count columns (2 ^ 48) 255 few small
