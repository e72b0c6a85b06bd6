-- A buffer whose cells are made fresh.
use Rattle.std.proofs.lemmas.Grind.{common_steps}
use Rattle.std.proofs.Common.{◌≡◌, ℕ, zero, suc, ◌*◌, ◌<◌, ◌≤◌, cond, List, [], ◌∷◌, length, None, Some, refl, sym, ap, ◌∙◌, arith}
use Rattle.std.specs.List.{slice_get, All}
use Rattle.std.specs.Option.{option_map}
use Rattle.std.proofs.lemmas.Bool.{cases_Bool}
use Rattle.textarea_screen.specs.Buffer.{cell_at, Changes}
use Rattle.textarea_screen.specs.Cell.{CellView, cell_view, fresh_cell}
use Rattle.textarea_screen.specs.Rect.{contains}
use Rattle.textarea_screen.specs.declared.screen.buffer.Buffer.{Buffer}
use Rattle.textarea_screen.specs.declared.screen.cell.Cell.{Cell}
use Rattle.textarea_screen.proofs.BufferLemmas.{cell_at-fresh, place_in-below}

-- the cells are fresh
abbrev pub AreFresh : List Cell → Type 0
AreFresh cells = All (λ cell. cell_view cell ≡ fresh_cell) cells

one_for_all : (view : CellView) (cells : List Cell) (index : ℕ) → index < length cells → option_map (λ (v : CellView). view) (option_map cell_view (slice_get cells index)) ≡ Some view
one_for_all view [] index within = absurd (omega arith)
one_for_all view (cell ∷ cells) zero within = refl
one_for_all view (cell ∷ cells) (suc index) within = one_for_all view cells index (omega arith)

-- a change that makes each cell of the old buffer the same
all_same : (old : Buffer) (x y : ℕ) (view : CellView) → old.area.height * old.area.width ≤ length old.cells.items →
    option_map (λ (v : CellView). view) (cell_at old x y) ≡ cond (contains old.area x y) (Some view) None
unfolding cell_at
all_same old x y view room = grind (arith, common_steps, one_for_all, place_in-below, cases_Bool (contains old.area x y))

-- a buffer with the same area, and with fresh cells
pub Changes-fresh : (old new : Buffer) → new.area ≡ old.area → old.area.height * old.area.width ≤ length old.cells.items → new.area.height * new.area.width ≤ length new.cells.items →
    AreFresh new.cells.items → Changes old new (λ x y cell. fresh_cell)
Changes-fresh old new area room new_room fresh = record {
  area = area;
  cells = λ x y. cell_at-fresh new x y new_room fresh ∙ ap (λ a. cond (contains a x y) (Some fresh_cell) None) area ∙ sym (all_same old x y fresh_cell room);
}
