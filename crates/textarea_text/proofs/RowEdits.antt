-- One edit of lines, as a splice of their text.
use Rattle.std.proofs.Common.{◌≡◌, ℕ, ◌+◌, ◌<◌, List, [], ◌∷◌, ◌++◌, length, take, drop, sym, ap, ◌∙◌, arith, get_or}
use Rattle.textarea_text.proofs.Prelude.{common_steps, append-nil, take-append-drop, drop_more, length-take-le}
use Rattle.textarea_text.specs.Prelude.{Symbol, characters, joined, OccursAt}
use Rattle.textarea_text.proofs.Splices.{characters-append, spliced_occurs}

-- the lines around a row
pub rows_around : (rows : List (List ℕ)) (row : ℕ) → row < length rows → rows ≡ take row rows ++ ((get_or rows row [] ∷ []) ++ drop (row + 1) rows)
rows_around rows row within = sym (take-append-drop row rows) ∙ ap (λ t. take row rows ++ t) (drop_more rows row [] within)

-- a line, split at a column
pub wrap_line : (line : List ℕ) (column : ℕ) → joined (line ∷ []) ≡ characters (take column line) ++ characters (drop column line)
wrap_line line column =
    grind (arith, common_steps, append-nil (characters line), take-append-drop column line, characters-append (take column line) (drop column line))

pub rows_stand : (rows middle below : List (List ℕ)) (start : List ℕ) (row column : ℕ) (symbols rest : List Symbol) → row < length rows →
    rows ≡ take row rows ++ (middle ++ below) → length start ≡ column → 0 < length middle → joined middle ≡ characters start ++ (symbols ++ rest) →
    OccursAt (joined rows) (row, column) symbols
rows_stand rows middle below start row column symbols rest within components at some was =
    grind (arith, common_steps, length-take-le, spliced_occurs)
