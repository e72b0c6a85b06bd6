-- Frames that are painted one after another.
use Rattle.std.specs.Prelude.{◌≡◌, ℕ, Bool, List, [], ◌∷◌, ◌++◌, length, Option, None, Some, if◌then◌else◌}
use Rattle.textarea_terminal.specs.Control.{Control}
use Rattle.textarea_terminal.specs.Paint.{PaintedFrame, Paints}

-- a frame, the controls that were written for it, and whether what the terminal showed was
-- forgotten before
pub record PaintedStep : Type 0 where
  pub is_reset : Bool
  pub frame : PaintedFrame
  pub controls : List Control

-- the frame before a step, unless it was forgotten
abbrev pub frame_before : Option PaintedFrame → PaintedStep → Option PaintedFrame
frame_before shown step = if step.is_reset then None else shown

-- the controls of each step are those that a painter writes for its frame, which has this number of
-- cells, after the frame before
abbrev pub ArePainted : ℕ → ℕ → Option PaintedFrame → List PaintedStep → Type 0
ArePainted columns size shown [] = Unit {0}
ArePainted columns size shown (step ∷ steps) =
    (length step.frame.cells ≡ size) × Paints columns size (frame_before shown step) step.frame step.controls × ArePainted columns size (Some step.frame) steps

abbrev pub all_controls : List PaintedStep → List Control
all_controls [] = []
all_controls (step ∷ steps) = step.controls ++ all_controls steps

-- the frame that is shown after the steps
abbrev pub last_frame : Option PaintedFrame → List PaintedStep → Option PaintedFrame
last_frame shown [] = shown
last_frame shown (step ∷ steps) = last_frame (Some step.frame) steps
