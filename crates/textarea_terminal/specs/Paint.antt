-- What painting does to a terminal, and which bytes it takes.
use Rattle.std.specs.Prelude.{◌≡◌, ℕ, ◌+◌, ◌%◌, ◌<◌, ◌≤◌, true, false, Bool, not, ◌&&◌, ◌==◌, List, [], ◌∷◌, ◌++◌, ◌⊎◌, ◌≢◌, length, take, drop, replicate, Option, None, Some, IfSome, is_some, if◌then◌else◌}
use Rattle.std.specs.List.{filter, filter_map}
use Rattle.std.specs.Option.{option_or}
use Rattle.textarea_screen.specs.Cell.{CellView, fresh_cell}
use Rattle.textarea_terminal.specs.Control.{Control, bytes_of}
use Rattle.textarea_terminal.specs.Control.Control.{Print, MoveTo, SetPen, ChangePen}
use Rattle.textarea_terminal.specs.PaintCells.{cluster_columns, is_half}
use Rattle.textarea_terminal.specs.Pen.{look_of, plain_look, pen_count}
use Rattle.textarea_terminal.specs.Disputed.{is_disputed}
use Rattle.textarea_terminal.specs.Screen.{Terminal, IsOfFamily, CountsAlike, first_modes, has_plain_modes, run, begins_half, printed, cluster_cells, settled_cells, settled_frame, rest_of, cursor_after}
use Rattle.textarea_terminal.specs.declared.output.brush.Brush.{Brush}
use Rattle.textarea_terminal.specs.declared.output.look.Pen.{Pen}

-- the bytes after are those before and then those of controls with this property
pub record Wrote (before after : List ℕ) (holds : List Control → Type 0) : Type 0 where
  pub controls : List Control
  pub bytes : after ≡ before ++ bytes_of controls
  pub with_ranges : holds controls

-- the text that a control prints
abbrev pub printed_text : Control → Option (List ℕ)
printed_text (Print text) = Some text
printed_text control = None

-- the texts that controls print, in order
abbrev pub prints_of : List Control → List (List ℕ)
prints_of controls = filter_map printed_text controls

-- whether a control moves the cursor
abbrev pub is_move : Control → Bool
is_move (MoveTo row column) = true
is_move control = false

-- the number of moves of the cursor
abbrev pub moves_of : List Control → ℕ
moves_of controls = length (filter is_move controls)

-- whether a control changes the pen
abbrev pub is_pen_change : Control → Bool
is_pen_change (SetPen renditions) = true
is_pen_change (ChangePen rendition) = true
is_pen_change control = false

-- the number of changes of the pen
abbrev pub pens_of : List Control → ℕ
pens_of controls = length (filter is_pen_change controls)

-- ---- the steps of painting

-- the controls leave the terminal in an update
abbrev pub BeginsUpdate : Bool → List Control → Type 0
BeginsUpdate is_updating controls =
    (prints_of controls ≡ [])
    × ((terminal : Terminal) → terminal.is_updating ≡ is_updating → run controls terminal ≡ record terminal { is_updating = true })
    × (moves_of controls ≡ 0) × (pens_of controls ≡ 0)

-- they move the cursor to the cell of an index, from this one if it is known
abbrev pub MovesTo : Option ℕ → ℕ → ℕ → List Control → Type 0
MovesTo at columns index controls =
    (prints_of controls ≡ [])
    × ((terminal : Terminal) → IfSome at (λ here. terminal.cursor ≡ Some here) → terminal.columns ≡ columns → has_plain_modes terminal.modes ≡ true →
    index < length terminal.cells → run controls terminal ≡ record terminal { cursor = Some index })
    × (at ≡ Some index → controls ≡ [])
    × (moves_of controls ≤ 1) × (pens_of controls ≡ 0)

-- the needed number of changes of the pen: those that give the look, or none if it is known to have
-- it
abbrev pub IsNeeded : Option Pen → Pen → ℕ → Type 0
IsNeeded pen look count = ((pen ≡ Some look) × (count ≡ 0)) ⊎ ((pen ≢ Some look) × (count ≡ pen_count look))

-- they give the pen a look, from this one if it is known
abbrev pub TakesLook : Option Pen → Pen → List Control → Type 0
TakesLook pen look controls =
    (prints_of controls ≡ [])
    × ((terminal : Terminal) → IfSome pen (λ known. terminal.pen ≡ known) → run controls terminal ≡ record terminal { pen = look })
    × (moves_of controls ≡ 0) × IsNeeded pen look (pens_of controls)

-- the terminal is as the brush knows it
pub record Knows (brush : Brush) (terminal : Terminal) : Type 0 where
  pub cursor : IfSome brush.at (λ index. terminal.cursor ≡ Some index)
  pub pen : IfSome brush.pen (λ look. terminal.pen ≡ look)
  pub updating : terminal.is_updating ≡ brush.is_updating
  pub modes : has_plain_modes terminal.modes ≡ true
  pub family : IsOfFamily terminal.shown_as

-- the texts that are printed for a cell: the blanks of a disputed cluster come before it
abbrev pub printed_texts : CellView → List (List ℕ)
printed_texts cell =
    if is_disputed cell.symbol then replicate (cluster_columns cell.symbol) (32 ∷ []) ++ cell.symbol ∷ [] else cell.symbol ∷ []

-- the moves between them: a disputed cluster is addressed again
abbrev pub inner_moves : CellView → ℕ
inner_moves cell = if is_disputed cell.symbol then 1 else 0

-- the terminal with the cell's grapheme cluster printed at an index
abbrev pub with_cell : ℕ → ℕ → CellView → Terminal → Terminal
with_cell columns index cell terminal = record terminal {
  cells = printed (rest_of terminal.rest_look (look_of cell)) (settled_cells terminal.shown_as cell) (take index terminal.cells) (drop index terminal.cells);
  cursor = cursor_after columns (index + length (cluster_cells terminal.shown_as (look_of cell) cell.symbol));
  pen = look_of cell;
  is_updating = true;
}

-- where the cursor is known to be after that: after a disputed cluster it isn't known
abbrev pub at_after : ℕ → ℕ → CellView → Option ℕ
at_after columns index cell = if is_disputed cell.symbol then None else cursor_after columns (index + cluster_columns cell.symbol)

-- the known state after that
abbrev pub brush_after : ℕ → ℕ → CellView → Brush
brush_after columns index cell = record {
  at = at_after columns index cell;
  pen = Some (look_of cell);
  is_updating = true;
}

-- controls that print the cell's cluster where the cursor is, with the pen that it needs
pub record PrintsLast (columns index : ℕ) (cell : CellView) (last : List Control) : Type 0 where
  pub prints : prints_of last ≡ printed_texts cell
  pub brings : (terminal : Terminal) → has_plain_modes terminal.modes ≡ true → IsOfFamily terminal.shown_as → terminal.columns ≡ columns → index < length terminal.cells →
      begins_half (drop index terminal.cells) ≡ false →
      run last (record terminal { is_updating = true; cursor = Some index; pen = look_of cell }) ≡ with_cell columns index cell terminal
  pub moves : moves_of last ≡ inner_moves cell
  pub pens : pens_of last ≡ 0

-- the controls print the cell's cluster at an index, where no cluster is covered in half
abbrev pub PrintsCell : Brush → ℕ → ℕ → CellView → List Control → Type 0
PrintsCell brush columns index cell controls =
    (prints_of controls ≡ printed_texts cell)
    × ((terminal : Terminal) → Knows brush terminal → terminal.columns ≡ columns → index < length terminal.cells → begins_half (drop index terminal.cells) ≡ false →
    run controls terminal ≡ with_cell columns index cell terminal)
    × (moves_of controls ≤ 1 + inner_moves cell) × (brush.at ≡ Some index → moves_of controls ≡ inner_moves cell)
    × IsNeeded brush.pen (look_of cell) (pens_of controls)

-- the cell is as it was, or its cluster begins before it: nothing is written
pub record KeepsCell (before after : Brush) (old new : CellView) (controls : List Control) : Type 0 where
  pub none : controls ≡ []
  pub brush : after ≡ before

-- the cell has changed: it is printed
pub record ChangesCell (before after : Brush) (columns index : ℕ) (old new : CellView) (controls : List Control) : Type 0 where
  pub whole : is_half new ≡ false
  pub changed : old ≢ new
  pub prints : PrintsCell before columns index new controls
  pub brush : after ≡ brush_after columns index new

-- the next cell is written only if it has changed
abbrev pub IsCellStep : Brush → Brush → ℕ → ℕ → CellView → CellView → List Control → Type 0
IsCellStep before after columns index old new controls =
    (((is_half new ≡ true) ⊎ (old ≡ new)) × KeepsCell before after old new controls) ⊎ ChangesCell before after columns index old new controls

-- ---- a frame

-- the terminal is as the brush knows it, and shows these cells as its family does, and its cursor or
-- not
pub record Shows (brush : Brush) (width : ℕ) (frame : List CellView) (is_caret_visible : Bool) (terminal : Terminal) : Type 0 where
  pub knows : Knows brush terminal
  pub columns : terminal.columns ≡ width
  pub cells : terminal.cells ≡ settled_frame terminal.shown_as [] frame
  pub caret : terminal.has_visible_cursor ≡ is_caret_visible

-- these texts, in order, are those of the new clusters that begin in a changed cell, with the blanks
-- before a disputed one
abbrev pub AreChanges : List CellView → List CellView → List (List ℕ) → Type 0
AreChanges [] [] texts = texts ≡ []
AreChanges (old ∷ olds) (new ∷ news) texts =
    (((is_half new ≡ true) ⊎ (old ≡ new)) × AreChanges olds news texts)
    ⊎ ((is_half new ≡ false) × (old ≢ new) × ((later : List (List ℕ)) × (texts ≡ printed_texts new ++ later) × AreChanges olds news later))
AreChanges olds news texts = ⊥

-- the number of runs of changed clusters, each in one row; `follows` if the cluster before these
-- cells has changed, and isn't disputed. A disputed cluster ends its run, and is one more.
abbrev pub HasRuns : ℕ → ℕ → Bool → List CellView → List CellView → ℕ → Type 0
HasRuns columns index follows [] [] runs = runs ≡ 0
HasRuns columns index follows (old ∷ olds) (new ∷ news) runs =
    ((is_half new ≡ true) × HasRuns columns (index + 1) follows olds news runs)
    ⊎ (((is_half new ≡ false) × (old ≡ new) × HasRuns columns (index + 1) false olds news runs)
    ⊎ ((is_half new ≡ false) × (old ≢ new)
    × ((later : ℕ) × (runs ≡ (if follows && not (index % columns == 0) then later else later + 1) + inner_moves new)
    × HasRuns columns (index + 1) (not (is_disputed new.symbol)) olds news later)))
HasRuns columns index follows olds news runs = ⊥

-- the number of changes of the look among changed clusters, from the look of the pen on
abbrev pub HasLooks : Option Pen → List CellView → List CellView → ℕ → Type 0
HasLooks pen [] [] looks = looks ≡ 0
HasLooks pen (old ∷ olds) (new ∷ news) looks =
    (((is_half new ≡ true) ⊎ (old ≡ new)) × HasLooks pen olds news looks)
    ⊎ ((is_half new ≡ false) × (old ≢ new)
    × ((later : ℕ) × ((count : ℕ) × (IsNeeded pen (look_of new) count × (looks ≡ count + later) × HasLooks (Some (look_of new)) olds news later))))
HasLooks pen olds news looks = ⊥

-- The controls change a terminal that shows the old cells to show the new ones, and neither show
-- nor hide its cursor. They print only changed clusters, with at most one move for each run, and
-- change the pen only if the look changes. There are none if nothing has changed.
pub record Repaints (columns : ℕ) (old new : List CellView) (before after : Brush) (controls : List Control) : Type 0 where
  pub brings : (terminal : Terminal) (is_caret_visible : Bool) → Shows before columns old is_caret_visible terminal →
      Shows after columns new is_caret_visible (run controls terminal)
  pub prints : AreChanges old new (prints_of controls)
  pub moves : (runs : ℕ) × (HasRuns columns 0 false old new runs × (moves_of controls ≤ runs))
  pub pens : (looks : ℕ) × (HasLooks before.pen old new looks × (pens_of controls ≤ looks))
  pub still : old ≡ new → (controls ≡ []) × (after ≡ before)

-- ---- what a painter promises

-- a painted frame: the cells, row after row, and the index of the caret's cell, if the caret is
-- shown
pub record PaintedFrame : Type 0 where
  pub cells : List CellView
  pub caret : Option ℕ

-- the cursor is shown at this index, or not shown
abbrev pub IsCaret : Option ℕ → Terminal → Type 0
IsCaret None terminal = terminal.has_visible_cursor ≡ false
IsCaret (Some index) terminal = (terminal.has_visible_cursor ≡ true) × (terminal.cursor ≡ Some index)

-- the terminal is one of the family, shows these cells as it does and this caret, and no update is
-- open
pub record ShowsFrame (width : ℕ) (frame : PaintedFrame) (terminal : Terminal) : Type 0 where
  pub family : IsOfFamily terminal.shown_as
  pub modes : has_plain_modes terminal.modes ≡ true
  pub columns : terminal.columns ≡ width
  pub cells : terminal.cells ≡ settled_frame terminal.shown_as [] frame.cells
  pub caret : IsCaret frame.caret terminal
  pub updating : terminal.is_updating ≡ false

-- a terminal of the family, in any modes, has these numbers of columns and cells
pub record HasSize (columns size : ℕ) (terminal : Terminal) : Type 0 where
  pub family : IsOfFamily terminal.shown_as
  pub has_columns : terminal.columns ≡ columns
  pub has_size : length terminal.cells ≡ size

-- the terminal has these numbers of columns and cells, and shows the frame if one is known
abbrev pub ShowsKnown : ℕ → ℕ → Option PaintedFrame → Terminal → Type 0
ShowsKnown columns size None terminal = HasSize columns size terminal
ShowsKnown columns size (Some frame) terminal = ShowsFrame columns frame terminal

-- the terminal shows exactly these cells
abbrev pub ShowsExactly : PaintedFrame → Terminal → Type 0
ShowsExactly frame terminal = terminal.cells ≡ frame.cells

-- the cells before the next frame; if nothing is known, those of an erased terminal
abbrev pub first_cells : ℕ → Option PaintedFrame → List CellView
first_cells size None = replicate size fresh_cell
first_cells size (Some frame) = frame.cells

-- the look of the pen before the first cell, if it is known: that of an erased terminal
abbrev pub first_pen : Option PaintedFrame → Option Pen
first_pen None = Some plain_look
first_pen (Some frame) = None

-- The controls make a terminal of the family show the frame, if it shows the frame before, or, if
-- that is unknown, has this size, in any modes. One that counts as we do shows exactly its cells.
-- They print each changed cluster once, the blanks of disputed ones, and nothing else. They move the
-- cursor at most once for each run of changed clusters, once for each disputed one and once for the
-- caret, and change the pen at most once for each change of the look and once more. There are none
-- if neither a cell nor the caret has changed.
pub record Paints (columns size : ℕ) (before : Option PaintedFrame) (frame : PaintedFrame) (controls : List Control) : Type 0 where
  pub brings : (terminal : Terminal) → ShowsKnown columns size before terminal → ShowsFrame columns frame (run controls terminal)
  pub exact : (terminal : Terminal) → CountsAlike terminal.shown_as → ShowsKnown columns size before terminal → ShowsExactly frame (run controls terminal)
  pub prints : AreChanges (first_cells size before) frame.cells (prints_of controls)
  pub moves : (runs : ℕ) × (HasRuns columns 0 false (first_cells size before) frame.cells runs × (moves_of controls ≤ runs + 1))
  pub pens : (looks : ℕ) × (HasLooks (first_pen before) (first_cells size before) frame.cells looks × (pens_of controls ≤ looks + 1))
  pub still : before ≡ Some frame → controls ≡ []

-- ---- around the cells

-- a terminal that shows anything, in any modes, is erased in its own colours and first modes, in an
-- update
abbrev pub Clears : List Control → Type 0
Clears controls =
    (prints_of controls ≡ [])
    × ((terminal : Terminal) → run controls terminal
    ≡ record terminal { cells = replicate (length terminal.cells) fresh_cell; cursor = None; pen = plain_look; is_updating = true; modes = first_modes })
    × (moves_of controls ≡ 0) × (pens_of controls ≡ 1)

-- the cursor is shown or hidden as wanted; `known` is whether it was shown, if that is known
abbrev pub SetsCursor : Option Bool → Bool → List Control → Type 0
SetsCursor known wanted controls =
    (prints_of controls ≡ [])
    × ((terminal : Terminal) → IfSome known (λ is_printed. terminal.has_visible_cursor ≡ is_printed) → run controls terminal ≡ record terminal { has_visible_cursor = wanted })
    × (known ≡ Some wanted → controls ≡ [])
    × (moves_of controls ≡ 0) × (pens_of controls ≡ 0)

-- an update that has begun ends
abbrev pub EndsUpdate : Bool → List Control → Type 0
EndsUpdate is_updating controls =
    (prints_of controls ≡ [])
    × ((terminal : Terminal) → terminal.is_updating ≡ is_updating → run controls terminal ≡ record terminal { is_updating = false })
    × (is_updating ≡ false → controls ≡ [])
    × (moves_of controls ≡ 0) × (pens_of controls ≡ 0)

-- the cursor is moved to the caret and shown, or hidden
pub record PutsCaret (at : Option ℕ) (known : Option Bool) (width : ℕ) (caret : Option ℕ) (controls : List Control) : Type 0 where
  pub brings : (terminal : Terminal) → IfSome at (λ here. terminal.cursor ≡ Some here) → IfSome known (λ is_printed. terminal.has_visible_cursor ≡ is_printed) →
      terminal.columns ≡ width → has_plain_modes terminal.modes ≡ true → IfSome caret (λ index. index < length terminal.cells) →
      run controls terminal ≡ record terminal { cursor = option_or caret terminal.cursor; has_visible_cursor = is_some caret }
  pub prints : prints_of controls ≡ []
  pub moves : moves_of controls ≤ 1
  pub pens : pens_of controls ≡ 0
  pub still : known ≡ Some (is_some caret) → IfSome caret (λ index. at ≡ Some index) → controls ≡ []

-- the cursor is moved to the caret or hidden, and then the update ends
pub record EndsFrame (brush : Brush) (known : Option Bool) (width : ℕ) (caret : Option ℕ) (controls : List Control) : Type 0 where
  pub first : List Control
  pub last : List Control
  pub whole : controls ≡ first ++ last
  pub puts : PutsCaret brush.at known width caret first
  pub ends : EndsUpdate brush.is_updating last

-- the cells and then the caret are changed from the known state to the frame
pub record PaintsFrame (brush : Brush) (known : Option Bool) (width : ℕ) (old : List CellView) (frame : PaintedFrame) (controls : List Control) : Type 0 where
  pub brings : (terminal : Terminal) → Knows brush terminal → IfSome known (λ is_printed. terminal.has_visible_cursor ≡ is_printed) → terminal.columns ≡ width →
      terminal.cells ≡ settled_frame terminal.shown_as [] old → ShowsFrame width frame (run controls terminal)
  pub prints : AreChanges old frame.cells (prints_of controls)
  pub moves : (runs : ℕ) × (HasRuns width 0 false old frame.cells runs × (moves_of controls ≤ runs + 1))
  pub pens : (looks : ℕ) × (HasLooks brush.pen old frame.cells looks × (pens_of controls ≤ looks))
  pub still : old ≡ frame.cells → known ≡ Some (is_some frame.caret) → IfSome frame.caret (λ index. brush.at ≡ Some index) → brush.is_updating ≡ false → controls ≡ []
