-- Two areas beside one another, and the cells of one after both are drawn.
use Rattle.std.proofs.Common.{◌≡◌, ◌∙◌, ℕ, ◌+◌, ◌≤◌, true, false, sym, arith, inl, inr}
use Rattle.std.proofs.lemmas.Bool.{cases_Bool}
use Rattle.std.proofs.lemmas.Bool.Decides.{nat_tests}
use Rattle.textarea_screen.specs.Buffer.{KeepsOutside}
use Rattle.textarea_screen.specs.Rect.{contains}
use Rattle.textarea_screen.specs.declared.screen.buffer.Buffer.{Buffer}
use Rattle.textarea_screen.specs.declared.screen.rect.Rect.{Rect}
use Rattle.textarea_uses.specs.SideBySide.{AgreeIn, ShareNoCell}

pub apart_beside : (left right : Rect) → left.x + left.width ≤ right.x → ShareNoCell left right
apart_beside left right beside x y inside = grind (arith, nat_tests)

pub apart_back : (left right : Rect) → ShareNoCell left right → ShareNoCell right left
apart_back left right apart x y inside =
    elim (cases_Bool (contains left x y)) [
      | inl in_left ↦ let no : true ≡ false = sym inside ∙ apart x y in_left in cc
      | inr out ↦ out
    ]

-- a drawing elsewhere leaves the cells of the area
pub agrees_outside : (area other : Rect) (old new : Buffer) → ShareNoCell area other → KeepsOutside (contains other) old new → AgreeIn area new old
agrees_outside area other old new apart keeps x y inside = keeps.cells x y (apart x y inside)

-- what stays outside of both stays outside of what has both
pub outside_both : (screen left right : Rect) (old between new : Buffer) → ((x y : ℕ) → contains screen x y ≡ false → contains left x y ≡ false)
    → ((x y : ℕ) → contains screen x y ≡ false → contains right x y ≡ false) → KeepsOutside (contains left) old between → KeepsOutside (contains right) between new
    → KeepsOutside (contains screen) old new
outside_both screen left right old between new in_left in_right first second = record {
  area = second.area ∙ first.area;
  cells = λ x y out. second.cells x y (in_right x y out) ∙ first.cells x y (in_left x y out);
}
