-- How changes of a buffer compose. Higher crates may cite these: they use only specs/Buffer.antt.
use Rattle.std.proofs.lemmas.Grind.{common_steps}
use Rattle.std.proofs.Common.{arith, ◌≡◌, ℕ, Bool, true, false, cond, ◌||◌, Option, None, Some, refl, sym, ap, ◌∙◌, ⊎_elim}
use Rattle.std.specs.Option.{option_map}
use Rattle.std.proofs.lemmas.Bool.{cases_Bool, cond-false}
use Rattle.textarea_screen.specs.Buffer.{area_of, cell_at, Change, Changes, KeepsOutside}
use Rattle.textarea_screen.specs.Cell.{CellView}
use Rattle.textarea_screen.specs.Rect.{contains}
use Rattle.textarea_screen.specs.declared.screen.buffer.Buffer.{Buffer}

-- ---- the cell at one position

option_map-same : (f : CellView → CellView) (o : Option CellView) → ((cell : CellView) → f cell ≡ cell) → option_map f o ≡ o
option_map-same f None same = refl
option_map-same f (Some cell) same = ap Some (same cell)

option_map-like : (f g : CellView → CellView) (o : Option CellView) → ((cell : CellView) → f cell ≡ g cell) → option_map f o ≡ option_map g o
option_map-like f g None same = refl
option_map-like f g (Some cell) same = ap Some (same cell)

option_map-then : (f g : CellView → CellView) (o : Option CellView) → option_map g (option_map f o) ≡ option_map (λ cell. g (f cell)) o
option_map-then f g None = refl
option_map-then f g (Some cell) = refl

-- the buffer has no cell outside of its area
pub cell_at-outside : (buffer : Buffer) (x y : ℕ) → contains (area_of buffer) x y ≡ false → cell_at buffer x y ≡ None
unfolding cell_at
cell_at-outside buffer x y outside = cond-false _ _ _ outside

-- ---- changes

-- a change of no cell
pub Changes-none : (buffer : Buffer) (change : Change) → ((x y : ℕ) (cell : CellView) → change x y cell ≡ cell) → Changes buffer buffer change
Changes-none buffer change same = record {
  area = refl;
  cells = λ x y. sym (option_map-same (change x y) (cell_at buffer x y) (same x y));
}

-- two changes one after the other are any change that has the effect of both on each cell
pub Changes-then : {a b c : Buffer} {f g : Change} (h : Change) → Changes a b f → Changes b c g →
    ((x y : ℕ) (cell : CellView) → g x y (f x y cell) ≡ h x y cell) → Changes a c h
Changes-then {a} {b} {c} {f} {g} h first second same = record {
  area = second.area ∙ first.area;
  cells = λ x y. second.cells x y ∙ ap (option_map (g x y)) (first.cells x y) ∙ option_map-then (f x y) (g x y) (cell_at a x y)
      ∙ option_map-like (λ cell. g x y (f x y cell)) (h x y) (cell_at a x y) (same x y);
}

-- the same change, defined otherwise
pub Changes-as : {a b : Buffer} {f : Change} (g : Change) → Changes a b f → ((x y : ℕ) (cell : CellView) → f x y cell ≡ g x y cell) → Changes a b g
Changes-as {a} {b} {f} g change same = record {
  area = change.area;
  cells = λ x y. change.cells x y ∙ option_map-like (f x y) (g x y) (cell_at a x y) (same x y);
}

-- the same change, defined otherwise for cells that the buffer does not have
pub Changes-inside : {a b : Buffer} {f : Change} (g : Change) → Changes a b f →
    ((x y : ℕ) (cell : CellView) → contains (area_of a) x y ≡ true → f x y cell ≡ g x y cell) → Changes a b g
Changes-inside {a} {b} {f} g change same = record {
  area = change.area;
  cells = λ x y.
      change.cells x y
      ∙ ⊎_elim
      (λ inside. option_map-like (f x y) (g x y) (cell_at a x y) (λ cell. same x y cell inside))
      (λ outside.
      let none = cell_at-outside a x y outside in
      ap (option_map (f x y)) none ∙ sym (ap (option_map (g x y)) none))
      (cases_Bool (contains (area_of a) x y));
}

-- a change of the cells that pass one test, and then the same change of the cells that pass another
cond-or : (before here : Bool) (f : CellView → CellView) (cell : CellView) → (here ≡ true → before ≡ false) →
    cond here (f (cond before (f cell) cell)) (cond before (f cell) cell) ≡ cond (before || here) (f cell) cell
cond-or true true f cell apart = cc (apart refl)
cond-or true false f cell apart = refl
cond-or false true f cell apart = refl
cond-or false false f cell apart = refl

pub Changes-more : {a b c : Buffer} (f : CellView → CellView) (before here after : ℕ → ℕ → Bool) →
    Changes a b (λ x y cell. cond (before x y) (f cell) cell) → Changes b c (λ x y cell. cond (here x y) (f cell) cell) →
    ((x y : ℕ) → here x y ≡ true → before x y ≡ false) → ((x y : ℕ) → (before x y || here x y) ≡ after x y) →
    Changes a c (λ x y cell. cond (after x y) (f cell) cell)
Changes-more f before here after first second apart both = grind (arith, common_steps, Changes-then, cond-or)

-- ---- cells that stay

-- the cells that a change does not alter are unchanged
pub KeepsOutside-from_changes : {a b : Buffer} {f : Change} (test : ℕ → ℕ → Bool) → Changes a b f →
    ((x y : ℕ) (cell : CellView) → test x y ≡ false → f x y cell ≡ cell) → KeepsOutside test a b
KeepsOutside-from_changes {a} {b} {f} test change same = record {
  area = change.area;
  cells = λ x y outside. change.cells x y ∙ option_map-same (f x y) (cell_at a x y) (λ cell. same x y cell outside);
}

pub KeepsOutside-then : {a b c : Buffer} {test : ℕ → ℕ → Bool} → KeepsOutside test a b → KeepsOutside test b c → KeepsOutside test a c
KeepsOutside-then first second = record {
  area = second.area ∙ first.area;
  cells = λ x y outside. second.cells x y outside ∙ first.cells x y outside;
}

-- a buffer that is unchanged
pub KeepsOutside-same : {a b : Buffer} (test : ℕ → ℕ → Bool) → b ≡ a → KeepsOutside test a b
KeepsOutside-same {a} {b} test same = record {
  area = ap area_of same;
  cells = λ x y _. ap (λ buffer. cell_at buffer x y) same;
}

-- if the cells outside of a test are unchanged, so are those outside of a wider one
pub KeepsOutside-wider : {a b : Buffer} {test : ℕ → ℕ → Bool} (wider : ℕ → ℕ → Bool) → KeepsOutside test a b →
    ((x y : ℕ) → wider x y ≡ false → test x y ≡ false) → KeepsOutside wider a b
KeepsOutside-wider wider keeps within = record {
  area = keeps.area;
  cells = λ x y outside. keeps.cells x y (within x y outside);
}
