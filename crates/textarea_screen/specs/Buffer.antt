-- A buffer as contracts see it: its area, and the cell at each position. A call's effect is one of
-- two facts: each new cell is a function of its position and old cell, or some cells are unchanged.
use Rattle.std.specs.Prelude.{◌≡◌, ◌⊎◌, ℕ, ◌+◌, ◌-◌, ◌*◌, ◌<◌, ◌≤◌, Bool, true, false, ◌&&◌, ◌==◌, nat_lt, nat_le, List, [], ◌∷◌, ◌++◌, length, chars, encode_utf8, slice_get, slice_index, Option, None, if◌then◌else◌}
use Rattle.std.specs.Option.{option_map}
use Rattle.textarea_screen.specs.Cell.{CellView, cell_view, with_symbol}
use Rattle.textarea_screen.specs.Rect.{contains}
use Rattle.textarea_screen.specs.declared.screen.buffer.Buffer.{Buffer}
use Rattle.textarea_screen.specs.declared.screen.rect.Rect.{Rect}
use Rattle.textarea_screen.specs.declared.screen.style.Style.{Style}

-- the rectangle whose cells the buffer has
abbrev pub area_of : Buffer → Rect
area_of buffer = buffer.area

-- the index of the cell in column x and row y, in a list of the rectangle's cells row by row
abbrev pub place_in : Rect → ℕ → ℕ → ℕ
place_in area x y = (y - area.y) * area.width + (x - area.x)

-- the cell in column x and row y, if the buffer has it
unfoldable pub cell_at : Buffer → ℕ → ℕ → Option CellView
cell_at buffer x y = if contains (area_of buffer) x y
    then option_map cell_view (slice_get buffer.cells.items (place_in (area_of buffer) x y)) else None

-- a change of cells: the new cell by its column, its row and the old cell
abbrev pub Change : Type 0
Change = ℕ → ℕ → CellView → CellView

-- whether the cell in column x and row y is in this row, from column `from` up to column `to`
abbrev pub is_between : ℕ → ℕ → ℕ → ℕ → ℕ → Bool
is_between row from to x y = (y == row) && (nat_le from x && nat_lt x to)

-- an ASCII text in a style, written into a row from column `from` on: one character in each cell
abbrev pub ascii_change : ℕ → ℕ → List ℕ → Style → Change
ascii_change from row text style x y cell =
    if is_between row from (from + length text) x y then with_symbol (slice_index text (x - from) ∷ []) style cell else cell

-- the text that a wide text puts into a cell: itself into its first one and the empty text into the
-- others, or a blank into each if it is not whole
abbrev pub wide_symbol : Bool → Bool → List ℕ → List ℕ
wide_symbol whole first text = if whole then (if first then text else []) else 32 ∷ []

-- a wide text in a style, written into a row's cells from column `from` up to column `to`
abbrev pub wide_change : ℕ → ℕ → ℕ → List ℕ → Bool → Style → Change
wide_change from row to text whole style x y cell =
    if is_between row from to x y then with_symbol (wide_symbol whole (x == from) text) style cell else cell

-- the buffer has the same area, and each of its cells is changed by the change
pub record Changes (old new : Buffer) (change : Change) : Type 0 where
  pub area : area_of new ≡ area_of old
  pub cells : (x y : ℕ) → cell_at new x y ≡ option_map (change x y) (cell_at old x y)

-- characters in a style, written into a row one after another from column `from` on, each as a wide
-- text into `columns` cells
abbrev pub characters_change : ℕ → ℕ → ℕ → List ℕ → Style → Change
characters_change from row columns [] style x y cell = cell
characters_change from row columns (c ∷ cs) style x y cell =
    characters_change (from + columns) row columns cs style x y (wide_change from row (from + columns) (encode_utf8 c) true style x y cell)

-- the characters between the start of a text and `rest` are written into a row from column `from` up
-- to `column`: all that fit before the column `to`
pub record ArePut (from row to columns : ℕ) (style : Style) (text rest : List ℕ) (column : ℕ) (old new : Buffer) : Type 0 where
  pub front : List ℕ
  pub parts : chars text ≡ front ++ chars rest
  pub end : column ≡ from + length front * columns
  pub fits : column ≤ to
  pub all : (chars rest ≡ []) ⊎ (to < column + columns)
  pub written : Changes old new (characters_change from row columns front style)

-- the buffer has the same area, and the cells that do not pass the test are unchanged
pub record KeepsOutside (test : ℕ → ℕ → Bool) (old new : Buffer) : Type 0 where
  pub area : area_of new ≡ area_of old
  pub cells : (x y : ℕ) → test x y ≡ false → cell_at new x y ≡ cell_at old x y

-- the buffer has no cell that passes the test
abbrev pub HasNone : (ℕ → ℕ → Bool) → Buffer → Type 0
HasNone test buffer = (x y : ℕ) → test x y ≡ true → contains (area_of buffer) x y ≡ false
