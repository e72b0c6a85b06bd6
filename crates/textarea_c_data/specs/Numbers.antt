-- The numbers by which C names the values of enums.
use Rattle.std.specs.Prelude.{ℕ, List, [], ◌∷◌, Option}
use Rattle.textarea_change.specs.declared.change.ChangeUnit.{ChangeUnit}
use Rattle.textarea_change.specs.declared.change.ChangeUnit.TheVariants as unit
use Rattle.textarea_data.specs.declared.cursor.CursorMove.{CursorMove}
use Rattle.textarea_data.specs.declared.cursor.CursorMove.TheVariants as move
use Rattle.textarea_data.specs.declared.scroll.Scrolling.{Scrolling}
use Rattle.textarea_data.specs.declared.scroll.Scrolling.TheVariants as scrolling
use Rattle.textarea_data.specs.declared.range.AtomicCursorBias.{AtomicCursorBias}
use Rattle.textarea_data.specs.declared.range.AtomicCursorBias.TheVariants as bias
use Rattle.textarea_data.specs.declared.range.AtomicDeleteDirection.{AtomicDeleteDirection}
use Rattle.textarea_data.specs.declared.range.AtomicDeleteDirection.TheVariants as direction
use Rattle.textarea_screen.specs.declared.screen.alignment.Alignment.{Alignment}
use Rattle.textarea_screen.specs.declared.screen.alignment.Alignment.TheVariants as alignment
use Rattle.textarea_terminal.specs.declared.output.colors.Colors.{Colors}
use Rattle.textarea_terminal.specs.declared.output.colors.Colors.TheVariants as colors
use Rattle.textarea_c_data.specs.Tables.{value_of_number}

abbrev pub numbered_moves : List (ℕ × CursorMove)
numbered_moves =
    (0, move.Forward) ∷ (1, move.Back) ∷ (2, move.Up) ∷ (3, move.Down) ∷ (4, move.Head) ∷ (5, move.End) ∷ (6, move.Top) ∷ (7, move.Bottom)
    ∷ (8, move.WordForward) ∷ (9, move.WordEnd) ∷ (10, move.WordBack) ∷ (11, move.ParagraphForward) ∷ (12, move.ParagraphBack) ∷ (13, move.InViewport) ∷ []

abbrev pub move_of : ℕ → Option CursorMove
move_of = value_of_number numbered_moves

abbrev pub numbered_pages : List (ℕ × Scrolling)
numbered_pages = (0, scrolling.PageDown) ∷ (1, scrolling.PageUp) ∷ (2, scrolling.HalfPageDown) ∷ (3, scrolling.HalfPageUp) ∷ []

abbrev pub page_of : ℕ → Option Scrolling
page_of = value_of_number numbered_pages

abbrev pub biases : List (ℕ × AtomicCursorBias)
biases = (0, bias.Backward) ∷ (1, bias.Forward) ∷ []

abbrev pub bias_of_number : ℕ → Option AtomicCursorBias
bias_of_number = value_of_number biases

abbrev pub directions : List (ℕ × AtomicDeleteDirection)
directions = (0, direction.Backward) ∷ (1, direction.Forward) ∷ []

abbrev pub direction_of : ℕ → Option AtomicDeleteDirection
direction_of = value_of_number directions

abbrev pub numbered_units : List (ℕ × ChangeUnit)
numbered_units = (0, unit.Characters) ∷ (1, unit.Bytes) ∷ (2, unit.Utf16) ∷ []

abbrev pub change_unit_of : ℕ → Option ChangeUnit
change_unit_of = value_of_number numbered_units

abbrev pub alignments : List (ℕ × Alignment)
alignments = (0, alignment.Left) ∷ (1, alignment.Center) ∷ (2, alignment.Right) ∷ []

abbrev pub alignment_of : ℕ → Option Alignment
alignment_of = value_of_number alignments

abbrev pub color_sets : List (ℕ × Colors)
color_sets = (0, colors.None) ∷ (1, colors.Sixteen) ∷ (2, colors.Indexed) ∷ (3, colors.True) ∷ []

abbrev pub colors_of : ℕ → Option Colors
colors_of = value_of_number color_sets
