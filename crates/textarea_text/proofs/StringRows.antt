-- Lines of `String`s that are read, split and joined.
use Rattle.std.proofs.Common.{subst, encode_utf8, encode_utf8_all, ◌≡◌, ℕ, ◌+◌, ◌<◌, ◌≤◌, List, [], ◌∷◌, ◌++◌, length, take, drop, sym, ap, ◌∙◌, arith, get_or, String, string_bytes, ◌^◌}
use Rattle.textarea_text.proofs.Prelude.{common_steps, append-nil, append_assoc, length-append, take-append-drop, map-append, get_or-map, take_at}
use Rattle.textarea_text.proofs.Prelude.{drop_at, take-map, drop-map, length-map, IsUtf8-string_bytes, encodes-append, encodes-chars, length-le-encodes}
use Rattle.textarea_text.specs.Prelude.{AllZip, chars, IsCharBoundary, replaced, Symbol, Character, Break, characters, following, leading, joined}
use Rattle.textarea_text.specs.Prelude.{characters_of, lines_of, text_of, Place, IsPlaceOf, IsPlace, OccursAt, end, index_of, changed, removed, ReplacesRows}
use Rattle.textarea_text.proofs.Copies.{lines_copied}
use Rattle.textarea_text.proofs.Columns.{IsCharBoundary-column, chars_from_bytes, offset_in}
use Rattle.textarea_text.proofs.Splices.{joined-append, characters-append, whole, lines-joined, end-append}
use Rattle.textarea_text.proofs.TextPlaces.{parted_rows, index_parted, parted, standing, place_parted}

pub line_at : {Z : Type 0} (items : List (String Z)) (row : ℕ) (line : String Z) → row < length items → line ≡ get_or items row line → get_or (lines_of items) row [] ≡ characters_of line
line_at items row line within e = get_or-map characters_of items row line [] within ∙ ap characters_of (sym e)

-- the byte offset, as `byte_offset` returns it, in the line that `as_str` borrows
pub offset_of_line : {Z : Type 0} (line : String Z) (text : List ℕ) (column offset : ℕ) → text ≡ string_bytes line → offset ≡ length (encode_utf8_all (take column (chars text))) → offset ≡ offset_in (characters_of line) column
offset_of_line line text column offset same e = e ∙ ap (λ t. length (encode_utf8_all (take column (chars t)))) same

pub boundary_at : {Z : Type 0} (line : String Z) (text : List ℕ) (column offset : ℕ) → text ≡ string_bytes line → offset ≡ length (encode_utf8_all (take column (chars text))) → IsCharBoundary text offset
boundary_at line text column offset same e =
    subst (λ (t : List ℕ). IsCharBoundary t offset) (sym same) (subst (IsCharBoundary (string_bytes line)) (sym (offset_of_line line text column offset same e)) (IsCharBoundary-column (string_bytes line) column (IsUtf8-string_bytes line)))

-- one character more
pub characters_of-pushed : {Z : Type 0} (old new : String Z) (c : ℕ) → string_bytes new ≡ string_bytes old ++ encode_utf8 c → characters_of new ≡ characters_of old ++ c ∷ []
characters_of-pushed old new c e =
    chars_from_bytes (string_bytes new) (characters_of old ++ c ∷ []) (IsUtf8-string_bytes new)
    (e
    ∙ ap (λ t. t ++ encode_utf8 c) (sym (encodes-chars (string_bytes old) (IsUtf8-string_bytes old)))
    ∙ ap (λ t. encode_utf8_all (characters_of old) ++ t) (sym (append-nil (encode_utf8 c)))
    ∙ sym (encodes-append (characters_of old) (c ∷ [])))

-- ---- lines that are built one by one

joined_last : (rows : List (List ℕ)) (line more : List ℕ) → joined (rows ++ (line ++ more) ∷ []) ≡ joined (rows ++ line ∷ []) ++ characters more
joined_last rows line more =
    grind (arith, common_steps, joined-append, append-nil (characters (line ++ more)), characters-append line more, append_assoc (leading rows) (characters line) (characters more), append-nil (characters line))

-- the first line, and copies of the others after it
pub rows_copied : {Z : Type 0} (old one all rest copies : List (String Z)) (line : String Z) → old ≡ [] → one ≡ old ++ line ∷ [] → all ≡ one ++ copies →
    AllZip (λ s t. string_bytes t ≡ string_bytes s) rest copies → joined (lines_of all) ≡ characters (characters_of line) ++ following (lines_of rest)
rows_copied old one all rest copies line none first is same =
    ap (λ t. joined (lines_of t)) (is ∙ ap (λ t. t ++ copies) (first ∙ ap (λ t. t ++ line ∷ []) none))
    ∙ ap (λ t. characters (characters_of line) ++ following t) (lines_copied rest copies same)

-- the last line gets the tail, and is added to the others
pub rows_done : {Z : Type 0} (all rows : List (String Z)) (line last : String Z) (head first tail : List ℕ) (whole_first : List ℕ) (rest : List (List ℕ)) →
    joined (lines_of all) ≡ characters whole_first ++ following rest → all ≡ rows ++ line ∷ [] → whole_first ≡ head ++ first → characters_of last ≡ characters_of line ++ tail →
    (new : List (String Z)) → new ≡ rows ++ last ∷ [] → joined (lines_of new) ≡ characters head ++ ((characters first ++ following rest) ++ characters tail)
rows_done all rows line last head first tail whole_first rest h popped begins e new is =
    let is_last = joined_last (lines_of rows) (characters_of line) tail in
    let begin = characters head in
    let line_feeds = following rest in
    grind (arith, common_steps, map-append, is_last, characters-append head first, append_assoc begin (characters first) line_feeds, append_assoc begin (characters first ++ line_feeds) (characters tail))

front_of : (rows : List (List ℕ)) (place : Place) (h : IsPlaceOf rows place) → take (index_of (joined rows) place) (joined rows) ≡ (parted_rows rows place.0 place.1 h).front
front_of rows place h =
    grind (arith, common_steps, parted_rows rows place.0 place.1 h, index_parted, take_at)

back_of : (rows : List (List ℕ)) (place : Place) (h : IsPlaceOf rows place) → drop (index_of (joined rows) place) (joined rows) ≡ (parted_rows rows place.0 place.1 h).back
back_of rows place h =
    grind (arith, common_steps, parted_rows rows place.0 place.1 h, index_parted, drop_at)

-- the whole text after the new lines replaced those from the start's row to the end's
pub rows_replaced : (rows new : List (List ℕ)) (start to : Place) (symbols : List Symbol) → IsPlaceOf rows start → IsPlaceOf rows to → ReplacesRows rows start to symbols new →
    joined (take start.0 rows ++ (new ++ drop (to.0 + 1) rows)) ≡ changed (joined rows) start to symbols
unfolding parted_rows
rows_replaced rows new start to symbols h h' is =
    let head = take start.1 (get_or rows start.0 []) in
    let tail = drop to.1 (get_or rows to.0 []) in
    let below = drop (to.0 + 1) rows in
    whole (take start.0 rows) new below head (symbols ++ characters tail) is.0 is.1
    ∙ ap (λ t. (leading (take start.0 rows) ++ characters head) ++ t) (append_assoc symbols (characters tail) (following below))
    ∙ ap (λ t. t ++ (symbols ++ (characters tail ++ following below))) (sym (front_of rows start h))
    ∙ ap (λ t. take (index_of (joined rows) start) (joined rows) ++ (symbols ++ t)) (sym (back_of rows to h'))

-- the same for `String`s that replace others
pub rows_in_place : {Z : Type 0} (items new : List (String Z)) (start to : Place) (row count : ℕ) (symbols : List Symbol) → IsPlaceOf (lines_of items) start →
    IsPlaceOf (lines_of items) to → row ≡ start.0 → row + count ≡ to.0 + 1 → ReplacesRows (lines_of items) start to symbols (lines_of new) →
    text_of (replaced items row count new) ≡ changed (text_of items) start to symbols
rows_in_place items new start to row count symbols h h' at e is =
    let below = drop (to.0 + 1) items in
    let replaced_is = rows_replaced (lines_of items) (lines_of new) start to symbols h h' is in
    grind (arith, common_steps, map-append, take-map characters_of start.0 items, drop-map characters_of (to.0 + 1) items, replaced_is)

-- ---- positions of an edit

pub rows_place : {Z : Type 0} (items : List (String Z)) (place : Place) → 0 < length items → IsPlace (text_of items) place → IsPlaceOf (lines_of items) place
rows_place items place some h =
    subst (λ (rows : List (List ℕ)). IsPlaceOf rows place) (lines-joined (lines_of items) (omega (arith, length-map items characters_of))) h

pub rows_ordered : (place : Place) (symbols : List Symbol) → place.0 ≤ (end place symbols).0
rows_ordered place [] = omega arith
rows_ordered place (Character c ∷ symbols) = omega (arith, rows_ordered (place.0, place.1 + 1) symbols)
rows_ordered place (Break ∷ symbols) = omega (arith, rows_ordered (place.0 + 1, 0) symbols)

-- symbols that end in the row where they begin end at no smaller column
pub columns_ordered : (place : Place) (symbols : List Symbol) → (end place symbols).0 ≡ place.0 → place.1 ≤ (end place symbols).1
columns_ordered place [] e = omega arith
columns_ordered place (Character c ∷ symbols) e = omega (arith, columns_ordered (place.0, place.1 + 1) symbols e)
columns_ordered place (Break ∷ symbols) e = absurd (omega (arith, e, rows_ordered (place.0 + 1, 0) symbols))

-- symbols at a position of a text end at a position, and its index is greater by their number
pub occurs_until : (text : List Symbol) (place : Place) (symbols : List Symbol) → IsPlace text place → OccursAt text place symbols →
    IsPlace text (end place symbols) × (index_of text (end place symbols) ≡ index_of text place + length symbols)
occurs_until text place symbols h occurs =
    let components = parted text place h in
    let rest = drop (length symbols) components.back in
    let ends : end (0, 0) (components.front ++ symbols) ≡ end place symbols = end-append (0, 0) components.front symbols ∙ ap (λ (p : Place). end p symbols) components.ends in
    let front = components.front in
    let after = end place symbols in
    let before = index_parted place front components.back components.ends in
    let index = index_parted after (front ++ symbols) rest ends in
    let inside = place_parted after (front ++ symbols) rest ends in
    let split = standing text place symbols components occurs in
    grind (arith, common_steps, take-append-drop (length symbols) components.back, split, append_assoc front symbols rest, length-append front symbols)

pub changed_by_none : (text : List Symbol) (place to : Place) (symbols first : List Symbol) → IsPlace text place → OccursAt text place symbols → to ≡ end place symbols → first ≡ [] → changed text place to first ≡ removed text place symbols
changed_by_none text place to symbols first h occurs e none =
    grind (arith, common_steps, occurs_until text place symbols h occurs)

pub row_within : {Z : Type 0} (items : List (String Z)) (place : Place) → IsPlaceOf (lines_of items) place → place.0 < length items
row_within items place h = omega (arith, h.0, length-map items characters_of)

-- a line has fewer than 2^63 characters
pub characters_bound : {Z : Type 0} (line : String Z) → length (characters_of line) < 2 ^ 63
characters_bound line =
    omega (arith, length-le-encodes (characters_of line), ap length (encodes-chars (string_bytes line) (IsUtf8-string_bytes line)), line.bytes.ok, line.bytes.small)
