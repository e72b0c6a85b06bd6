-- The controls of a terminal, and their bytes: ECMA-48's forms, and xterm's private modes.
use Rattle.std.specs.Prelude.{ℕ, ◌+◌, List, [], ◌∷◌, ◌++◌, codes, decimal}
use Rattle.textarea_terminal.specs.Pen.{Rendition, rendition_bytes, renditions_bytes}

pub data Control : Type 0 where
  -- a grapheme cluster, by its bytes
  Print : List ℕ → Control
  -- the cursor to a row and a column, each counted from 0
  MoveTo : ℕ → ℕ → Control
  -- the pen is reset, and then these renditions change it
  SetPen : List Rendition → Control
  -- this rendition changes the pen
  ChangePen : Rendition → Control
  EraseAll : Control
  -- the characters that are printed are those of the bytes, as in ASCII
  SelectAscii : Control
  -- rows and columns count from the screen's first ones
  ResetOrigin : Control
  -- no columns, and no rows, are margins
  ResetColumnMargins : Control
  ResetRowMargins : Control
  -- what is printed replaces what was there
  ResetInsertion : Control
  -- what is printed after the last column goes to the next row
  SetWrapping : Control
  ShowCursor : Control
  HideCursor : Control
  -- what follows is shown only when the update ends
  BeginUpdate : Control
  EndUpdate : Control

-- the bytes that introduce a control sequence
abbrev pub introducer : List ℕ
introducer = 27 ∷ 91 ∷ []

abbrev pub control_bytes : Control → List ℕ
control_bytes (Print text) = text
control_bytes (MoveTo row column) = introducer ++ decimal (row + 1) ++ codes ";" ++ decimal (column + 1) ++ codes "H"
control_bytes (SetPen renditions) = introducer ++ codes "0" ++ renditions_bytes renditions ++ codes "m"
control_bytes (ChangePen rendition) = introducer ++ rendition_bytes rendition ++ codes "m"
control_bytes EraseAll = introducer ++ codes "2J"
control_bytes SelectAscii = 27 ∷ codes "(B" ++ 15 ∷ []
control_bytes ResetOrigin = introducer ++ codes "?6l"
control_bytes ResetColumnMargins = introducer ++ codes "?69l"
control_bytes ResetRowMargins = introducer ++ codes "r"
control_bytes ResetInsertion = introducer ++ codes "4l"
control_bytes SetWrapping = introducer ++ codes "?7h"
control_bytes ShowCursor = introducer ++ codes "?25h"
control_bytes HideCursor = introducer ++ codes "?25l"
control_bytes BeginUpdate = introducer ++ codes "?2026h"
control_bytes EndUpdate = introducer ++ codes "?2026l"

-- one after another
abbrev pub bytes_of : List Control → List ℕ
bytes_of [] = []
bytes_of (control ∷ controls) = control_bytes control ++ bytes_of controls
