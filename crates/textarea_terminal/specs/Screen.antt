-- A terminal, and what each control does to it.
use Rattle.std.specs.Prelude.{◌≡◌, ◌<◌, ◌≤◌, ℕ, ◌+◌, ◌-◌, ◌*◌, ◌%◌, Bool, true, false, ◌&&◌, not, ◌==◌, nat_eq, nat_lt, nat_le, List, [], ◌∷◌, ◌++◌, length, take, drop, reverse, replicate, map, Option, None, Some, if◌then◌else◌}
use Rattle.std.specs.List.{concat, starts_with}
use Rattle.textarea_screen.specs.Cell.{CellView}
use Rattle.textarea_terminal.specs.Control.{Control}
use Rattle.textarea_terminal.specs.Control.Control.{Print, MoveTo, SetPen, ChangePen, EraseAll, SelectAscii, ResetOrigin, ResetColumnMargins, ResetRowMargins, ResetInsertion, SetWrapping, ShowCursor, HideCursor, BeginUpdate, EndUpdate}
use Rattle.textarea_terminal.specs.Disputed.{is_disputed}
use Rattle.textarea_terminal.specs.PaintCells.{cluster_columns, half, is_half}
use Rattle.textarea_terminal.specs.Pen.{plain_look, in_look, look_of, rendered_all, first_read}
use Rattle.textarea_terminal.specs.declared.output.look.Pen.{Pen}

-- what a shell, or a program that ended, may leave otherwise than it is at first
pub record Modes : Type 0 where
  -- addresses count from the margins
  pub has_origin : Bool
  -- some columns at the sides, and some rows at the top or the bottom, are margins
  pub has_column_margins : Bool
  pub has_row_margins : Bool
  -- what is printed moves the rest of its row to the right
  pub inserts : Bool
  -- what is printed after the last column goes to the next row
  pub wraps : Bool
  -- other characters are printed than those of the bytes, such as lines
  pub has_shifted_set : Bool
  -- some rows are shown at twice the width
  pub has_double_rows : Bool

abbrev pub first_modes : Modes
first_modes = record {
  has_origin = false;
  has_column_margins = false;
  has_row_margins = false;
  inserts = false;
  wraps = true;
  has_shifted_set = false;
  has_double_rows = false;
}

-- the modes are those that a terminal has at first
unfoldable pub has_plain_modes : Modes → Bool
has_plain_modes modes =
    not modes.has_origin && not modes.has_column_margins && not modes.has_row_margins && not modes.inserts && modes.wraps && not modes.has_shifted_set
    && not modes.has_double_rows

pub record Terminal : Type 0 where
  pub columns : ℕ
  -- what each cell shows, row after row; every cluster ends in its row; there are none if the
  -- content is unknown
  pub cells : List CellView
  -- the index of the cursor's cell, if it is known
  pub cursor : Option ℕ
  pub has_visible_cursor : Bool
  -- the look of what is printed next
  pub pen : Pen
  -- an update has begun, and has not ended
  pub is_updating : Bool
  -- the look of the blank that is left of a cluster that is partly printed over, by the look of the
  -- pen and the cell before; terminals differ in it
  pub rest_look : Pen → CellView → Pen
  pub modes : Modes
  -- the texts that it shows for a disputed cluster in the cells that it takes for it, the cluster or
  -- some parts of it, and none in a cell that the text before it covers; it moves as many columns
  pub shown_as : List ℕ → List (List ℕ)

-- ---- printing

abbrev pub rest_of : (Pen → CellView → Pen) → Pen → CellView → CellView
rest_of rest_look pen cell = in_look (rest_look pen cell) (32 ∷ [])

-- the cells whose cluster has lost its beginning become blanks
abbrev pub mended : (CellView → CellView) → List CellView → List CellView
mended rest [] = []
mended rest (cell ∷ cells) = if is_half cell then rest cell ∷ mended rest cells else cell ∷ cells

-- the same of the cells, from the last to the first, whose cluster has lost its end
abbrev pub mended_back : (CellView → CellView) → List CellView → List CellView
mended_back rest [] = []
mended_back rest (cell ∷ cells) = rest cell ∷ (if is_half cell then mended_back rest cells else cells)

abbrev pub begins_half : List CellView → Bool
begins_half [] = false
begins_half (cell ∷ cells) = is_half cell

-- the cells before the cursor and from it on, with these cells printed there
abbrev pub printed : (CellView → CellView) → List CellView → List CellView → List CellView → List CellView
printed rest cells before after =
    (if begins_half after then reverse (mended_back rest (reverse before)) else before) ++ cells ++ mended rest (drop (length cells) after)

-- a cell of a terminal with this text, which is empty if another text covers the cell
abbrev pub text_cell : Pen → List ℕ → CellView
text_cell look [] = half
text_cell look text = in_look look text

-- the cells that a cluster is shown in, at the cursor
unfoldable pub cluster_cells : (List ℕ → List (List ℕ)) → Pen → List ℕ → List CellView
cluster_cells shown_as look text =
    if is_disputed text then map (text_cell look) (shown_as text) else in_look look text ∷ replicate (cluster_columns text - 1) half

-- the cursor after printing up to an index: in the last column terminals differ
abbrev pub cursor_after : ℕ → ℕ → Option ℕ
cursor_after columns index = if index % columns == 0 then None else Some index

-- a terminal whose content is unknown
abbrev pub unknown : Terminal → Terminal
unknown terminal = record terminal { cells = []; cursor = None }

-- a cluster that these cells show, printed at the cursor; in other modes it may do anything
abbrev pub print_at : List CellView → Bool → Option ℕ → Terminal → Terminal
print_at cells is_cluster None terminal = unknown terminal
print_at cells is_cluster (Some index) terminal =
    if has_plain_modes terminal.modes && is_cluster && nat_le (index % terminal.columns + length cells) terminal.columns
    then record terminal {
      cells = printed (rest_of terminal.rest_look terminal.pen) cells (take index terminal.cells) (drop index terminal.cells);
      cursor = cursor_after terminal.columns (index + length cells);
    }
    else unknown terminal

-- ---- the steps

-- A terminal reads at most 16 parameters of one control. Of a control that resets the pen the first
-- says that.

abbrev pub apply_control : Control → Terminal → Terminal
apply_control (Print text) terminal =
    print_at (cluster_cells terminal.shown_as terminal.pen text) (nat_lt 0 (cluster_columns text)) terminal.cursor terminal
apply_control (MoveTo row column) terminal = record terminal {
  cursor = if has_plain_modes terminal.modes && nat_lt column terminal.columns && nat_lt (row * terminal.columns + column) (length terminal.cells)
      then Some (row * terminal.columns + column) else None;
}
apply_control (SetPen renditions) terminal = record terminal { pen = rendered_all plain_look (first_read 15 renditions) }
apply_control (ChangePen rendition) terminal = record terminal { pen = rendered_all terminal.pen (first_read 16 (rendition ∷ [])) }
apply_control EraseAll terminal = record terminal {
  cells = replicate (length terminal.cells) (in_look terminal.pen (32 ∷ []));
  modes = record terminal.modes { has_double_rows = false };
}
apply_control SelectAscii terminal = record terminal { modes = record terminal.modes { has_shifted_set = false } }
apply_control ResetOrigin terminal = record terminal { cursor = None; modes = record terminal.modes { has_origin = false } }
apply_control ResetColumnMargins terminal = record terminal { cursor = None; modes = record terminal.modes { has_column_margins = false } }
apply_control ResetRowMargins terminal = record terminal { cursor = None; modes = record terminal.modes { has_row_margins = false } }
apply_control ResetInsertion terminal = record terminal { modes = record terminal.modes { inserts = false } }
apply_control SetWrapping terminal = record terminal { modes = record terminal.modes { wraps = true } }
apply_control ShowCursor terminal = record terminal { has_visible_cursor = true }
apply_control HideCursor terminal = record terminal { has_visible_cursor = false }
apply_control BeginUpdate terminal = record terminal { is_updating = true }
apply_control EndUpdate terminal = record terminal { is_updating = false }

-- controls one after another
abbrev pub run : List Control → Terminal → Terminal
run [] terminal = terminal
run (control ∷ controls) terminal = run controls (apply_control control terminal)

-- ---- the family of terminals

-- the first text isn't empty, if there is one
abbrev pub begins_text : List (List ℕ) → Bool
begins_text [] = true
begins_text (text ∷ texts) = nat_lt 0 (length text)

-- a terminal takes for a disputed cluster at most the columns that we count, begins with a text, and
-- shows the cluster or its first part
pub record IsOfFamily (shown_as : List ℕ → List (List ℕ)) : Type 0 where
  pub width : (text : List ℕ) → 0 < cluster_columns text → length (shown_as text) ≤ cluster_columns text
  pub begins : (text : List ℕ) → 0 < cluster_columns text → begins_text (shown_as text) ≡ true
  pub part : (text : List ℕ) → 0 < cluster_columns text → starts_with nat_eq text (concat (shown_as text)) ≡ true

-- a terminal counts as we do, and shows the cluster whole
abbrev pub CountsAlike : (List ℕ → List (List ℕ)) → Type 0
CountsAlike shown_as = (text : List ℕ) → shown_as text ≡ text ∷ replicate (cluster_columns text - 1) []

-- the first cell, or another if there is none
abbrev pub first_of : CellView → List CellView → CellView
first_of other [] = other
first_of other (cell ∷ cells) = cell

-- the cells that a terminal of the family shows for a cell of a frame that begins a cluster: after a
-- disputed one blanks, up to the columns that we count
abbrev pub settled_cells : (List ℕ → List (List ℕ)) → CellView → List CellView
settled_cells shown_as cell =
    cluster_cells shown_as (look_of cell) cell.symbol
    ++ replicate (cluster_columns cell.symbol - length (cluster_cells shown_as (look_of cell) cell.symbol)) (in_look (look_of cell) (32 ∷ []))

-- The cells of a frame as a terminal of the family shows them, of which the first are these. Only
-- those of disputed clusters differ.
abbrev pub settled_frame : (List ℕ → List (List ℕ)) → List CellView → List CellView → List CellView
settled_frame shown_as first [] = []
settled_frame shown_as (shown ∷ first) (cell ∷ cells) = shown ∷ settled_frame shown_as first cells
settled_frame shown_as [] (cell ∷ cells) = first_of cell (settled_cells shown_as cell) ∷ settled_frame shown_as (drop 1 (settled_cells shown_as cell)) cells
