-- The text of lines, and how it changes with some neighbouring lines.
use Rattle.std.proofs.Common.{◌≡◌, ℕ, suc, ◌+◌, ◌<◌, List, [], ◌∷◌, ◌++◌, length, sym, ap, refl, ◌∙◌, arith, zero-add}
use Rattle.textarea_text.proofs.Prelude.{common_steps, take_at, drop_at, append_assoc, length-append}
use Rattle.textarea_text.specs.Prelude.{Symbol, Character, Break, characters, following, leading, joined, lines, on_first, Place, end, row_start, index_of, inserted, removed, OccursAt}

-- ---- lines and text

pub characters-append : (xs ys : List ℕ) → characters (xs ++ ys) ≡ characters xs ++ characters ys
characters-append [] ys = refl
characters-append (x ∷ xs) ys = ap (λ t. Character x ∷ t) (characters-append xs ys)

pub length-characters : (xs : List ℕ) → length (characters xs) ≡ length xs
length-characters [] = refl
length-characters (x ∷ xs) = ap suc (length-characters xs)

pub following-append : (xs ys : List (List ℕ)) → following (xs ++ ys) ≡ following xs ++ following ys
following-append [] ys = refl
following-append (x ∷ xs) ys =
    grind (arith, common_steps, following-append xs ys, append_assoc (characters x) (following xs) (following ys))

-- lines below others, joined
pub joined-append : (above middle : List (List ℕ)) → 0 < length middle → joined (above ++ middle) ≡ leading above ++ joined middle
joined-append [] middle some = refl
joined-append (line ∷ above) [] some = absurd (omega arith)
joined-append (line ∷ []) (first ∷ middle) some = sym (append_assoc (characters line) (Break ∷ []) (characters first ++ following middle))
joined-append (line ∷ next ∷ above) (first ∷ middle) some =
    grind (arith, common_steps, joined-append (next ∷ above) (first ∷ middle) some, append_assoc (characters line) (Break ∷ leading (next ∷ above)) (joined (first ∷ middle)))

pub joined-append_below : (middle below : List (List ℕ)) → 0 < length middle → joined (middle ++ below) ≡ joined middle ++ following below
joined-append_below [] below some = absurd (omega arith)
joined-append_below (first ∷ middle) below some =
    grind (arith, common_steps, following-append middle below, append_assoc (characters first) (following middle) (following below))

pub joined_three : (above middle below : List (List ℕ)) → 0 < length middle → joined (above ++ (middle ++ below)) ≡ leading above ++ (joined middle ++ following below)
joined_three above middle below some =
    grind (arith, common_steps, joined-append, length-append middle below, joined-append_below middle below some)

lines-front : (line : List ℕ) (rest : List Symbol) (next : List (List ℕ)) → lines rest ≡ [] ∷ next → lines (characters line ++ rest) ≡ line ∷ next
lines-front [] rest next e = e
lines-front (c ∷ line) rest next e = ap (on_first c) (lines-front line rest next e)

lines-following : (rest : List (List ℕ)) → lines (following rest) ≡ [] ∷ rest
lines-following [] = refl
lines-following (line ∷ rest) = ap (λ t. [] ∷ t) (lines-front line (following rest) rest (lines-following rest))

-- splitting a joined text gives back the lines
pub lines-joined : (rows : List (List ℕ)) → 0 < length rows → lines (joined rows) ≡ rows
lines-joined [] some = absurd (omega arith)
lines-joined (line ∷ rest) some = lines-front line (following rest) rest (lines-following rest)

-- ---- positions

pub end-append : (place : Place) (xs ys : List Symbol) → end place (xs ++ ys) ≡ end (end place xs) ys
end-append place [] ys = refl
end-append place (Character c ∷ xs) ys = end-append (place.0, place.1 + 1) xs ys
end-append place (Break ∷ xs) ys = end-append (place.0 + 1, 0) xs ys

pub end-characters : (row column : ℕ) (line : List ℕ) → end (row, column) (characters line) ≡ (row, column + length line)
end-characters row column [] = ap (λ (n : ℕ). (row, n)) (omega arith)
end-characters row column (c ∷ line) = end-characters row (column + 1) line ∙ ap (λ (n : ℕ). (row, n)) (omega arith)

pub end-leading : (row : ℕ) (above : List (List ℕ)) → end (row, 0) (leading above) ≡ (row + length above, 0)
end-leading row [] = ap (λ (n : ℕ). (n, 0)) (omega arith)
end-leading row (line ∷ above) =
    end-append (row, 0) (characters line) (Break ∷ leading above)
    ∙ ap (λ (p : Place). end p (Break ∷ leading above)) (end-characters row 0 line)
    ∙ end-leading (row + 1) above
    ∙ ap (λ (n : ℕ). (n, 0)) (omega arith)

-- where a line's prefix ends that has lines above it
pub end_of_front : (above : List (List ℕ)) (line : List ℕ) → end (0, 0) (leading above ++ characters line) ≡ (length above, length line)
end_of_front above line =
    grind (arith, common_steps, end-append, end-leading 0 above, end-characters, zero-add)

row_start-characters : (line : List ℕ) (rest : List Symbol) (row : ℕ) → row_start (characters line ++ rest) (suc row) ≡ row_start rest (suc row) + length line
row_start-characters [] rest row = omega arith
row_start-characters (c ∷ line) rest row = omega (arith, row_start-characters line rest row)

row_start-leading : (above : List (List ℕ)) (rest : List Symbol) → row_start (leading above ++ rest) (length above) ≡ length (leading above)
row_start-leading [] rest = refl
row_start-leading (line ∷ above) rest =
    let further = row_start-leading above rest in
    grind (arith, common_steps, append_assoc (characters line) (Break ∷ leading above) rest, row_start-characters line (Break ∷ (leading above ++ rest)) (length above), length-append, length-characters)

-- the index of that position is the length of the text before it
pub index_of_front : (above : List (List ℕ)) (line : List ℕ) (rest : List Symbol) → index_of (leading above ++ (characters line ++ rest)) (length above, length line) ≡ length (leading above ++ characters line)
index_of_front above line rest =
    omega (arith, row_start-leading above (characters line ++ rest), length-append (leading above) (characters line), length-characters line)

-- ---- splices of a text that is given as several lists

pub inserted_at : (xs ys symbols : List Symbol) (place : Place) → index_of (xs ++ ys) place ≡ length xs → inserted (xs ++ ys) place symbols ≡ xs ++ (symbols ++ ys)
inserted_at xs ys symbols place e =
    grind (arith, common_steps, take_at xs ys (length xs), drop_at xs ys (length xs))

pub removed_at : (xs ys symbols : List Symbol) (place : Place) → index_of (xs ++ (symbols ++ ys)) place ≡ length xs → removed (xs ++ (symbols ++ ys)) place symbols ≡ xs ++ ys
removed_at xs ys symbols place e =
    grind (arith, common_steps, take_at xs (symbols ++ ys) (length xs), append_assoc xs symbols ys, drop_at (xs ++ symbols) ys (length xs + length symbols) (length-append xs symbols), length-append xs symbols)

pub occurs_at : (xs ys symbols : List Symbol) (place : Place) → index_of (xs ++ (symbols ++ ys)) place ≡ length xs → OccursAt (xs ++ (symbols ++ ys)) place symbols
occurs_at xs ys symbols place e =
    grind (arith, common_steps, drop_at xs (symbols ++ ys) (length xs), take_at symbols ys (length symbols))

-- ---- the one lemma of all edits: of neighbouring lines the middle ones change

-- the whole text, split at a position of the middle lines
pub whole : (above middle below : List (List ℕ)) (start : List ℕ) (rest : List Symbol) → 0 < length middle → joined middle ≡ characters start ++ rest →
    joined (above ++ (middle ++ below)) ≡ (leading above ++ characters start) ++ (rest ++ following below)
whole above middle below start rest some e =
    grind (arith, common_steps, joined_three above middle below some, append_assoc (characters start) rest (following below), append_assoc (leading above) (characters start) (rest ++ following below))

pub index_after_rows : (above : List (List ℕ)) (start : List ℕ) (rest : List Symbol) → index_of ((leading above ++ characters start) ++ rest) (length above, length start) ≡ length (leading above ++ characters start)
index_after_rows above start rest =
    grind (arith, common_steps, append_assoc (leading above) (characters start) rest, index_of_front above start rest)

pub spliced_occurs : (above middle below : List (List ℕ)) (start : List ℕ) (symbols rest : List Symbol) → 0 < length middle →
    joined middle ≡ characters start ++ (symbols ++ rest) → OccursAt (joined (above ++ (middle ++ below))) (length above, length start) symbols
spliced_occurs above middle below start symbols rest some was =
    let front = leading above ++ characters start in
    let after = rest ++ following below in
    let index = index_after_rows above start (symbols ++ after) in
    let text = whole above middle below start (symbols ++ rest) some was in
    grind (arith, common_steps, text, append_assoc symbols rest (following below), occurs_at front after symbols (length above, length start) index)
