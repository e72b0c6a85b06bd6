-- The numbers of the modes of wrapping and of the cursor's cell, and of the cursor's unit.
use Rattle.std.specs.Prelude.{ℕ, List, [], ◌∷◌, Option}
use Rattle.textarea_data.specs.declared.cursor.CursorRenderMode.{CursorRenderMode}
use Rattle.textarea_data.specs.declared.cursor.CursorRenderMode.TheVariants as render
use Rattle.textarea_data.specs.declared.cursor.CursorUnit.{CursorUnit}
use Rattle.textarea_data.specs.declared.cursor.CursorUnit.TheVariants as unit
use Rattle.textarea_wrap.specs.declared.wrap.WrapMode.{WrapMode}
use Rattle.textarea_wrap.specs.declared.wrap.WrapMode.TheVariants as mode
use Rattle.textarea_c_data.specs.Tables.{value_of_number}

abbrev pub wrap_modes : List (ℕ × WrapMode)
wrap_modes = (0, mode.None) ∷ (1, mode.Word) ∷ (2, mode.Glyph) ∷ (3, mode.WordOrGlyph) ∷ []

abbrev pub wrap_mode_of : ℕ → Option WrapMode
wrap_mode_of = value_of_number wrap_modes

abbrev pub render_modes : List (ℕ × CursorRenderMode)
render_modes = (0, render.Cell) ∷ (1, render.Hidden) ∷ []

abbrev pub render_mode_of : ℕ → Option CursorRenderMode
render_mode_of = value_of_number render_modes

abbrev pub cursor_units : List (ℕ × CursorUnit)
cursor_units = (0, unit.Character) ∷ (1, unit.Cluster) ∷ []

abbrev pub cursor_unit_of : ℕ → Option CursorUnit
cursor_unit_of = value_of_number cursor_units
