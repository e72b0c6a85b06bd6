-- The visual rows and columns of a text that are in view.
use Rattle.std.specs.Prelude.{ℕ, ◌+◌, ◌-◌, ◌^◌, min, max}

-- a viewport as contracts see it: the first visual row and column in view, and the area's size
pub record ViewportState : Type 0 where
  pub row : ℕ
  pub column : ℕ
  pub width : ℕ
  pub height : ℕ

-- the viewport before anything is drawn
abbrev pub initial_viewport : ViewportState
initial_viewport = record { row = 0; column = 0; width = 0; height = 0 }

-- the number, but at most the greatest `usize`
abbrev pub saturated_usize : ℕ → ℕ
saturated_usize number = min number (2 ^ 64 - 1)

-- the last of `len` rows or columns from the first on: one less than their sum, and at least the
-- first; the sum is at most the greatest `usize`, and the difference stops at 0
abbrev pub last_visible : ℕ → ℕ → ℕ
last_visible first len = max first (saturated_usize (first + len) - 1)

-- a row or a column that is clamped to those in view, and then to at most the greatest one
abbrev pub clamped : ℕ → ℕ → ℕ → ℕ → ℕ
clamped first len greatest at = min (min (max at first) (last_visible first len)) greatest
