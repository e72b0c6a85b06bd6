-- The controls that print a disputed cluster apart from what is beside it.
use Rattle.std.specs.Prelude.{ℕ, List, [], ◌∷◌, ◌++◌, replicate}
use Rattle.textarea_terminal.specs.Control.{Control}
use Rattle.textarea_terminal.specs.Control.Control.{Print, MoveTo}
use Rattle.textarea_terminal.specs.PaintCells.{cluster_columns}

abbrev pub blank_prints : ℕ → List Control
blank_prints count = replicate count (Print (32 ∷ []))

-- its cells are made blank, and then it is printed at the first of them, by its address
abbrev pub parted_controls : ℕ → ℕ → List ℕ → List Control
parted_controls row column text = blank_prints (cluster_columns text) ++ MoveTo row column ∷ Print text ∷ []
