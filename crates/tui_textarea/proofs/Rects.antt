-- A rectangle is determined by its corner and size, and so are facts of one.
use Rattle.std.proofs.Common.{◌≡◌, ℕ, ◌+◌, ◌-◌, ◌≤◌, min, ap, ap₂, sym, subst, ◌∙◌}
use Rattle.std.proofs.Math.Bridge.{le_prop}
use Rattle.std.specs.Prelude.{Option}
use Rattle.tui_textarea.specs.DrawingPrelude.{DocumentState, IsLastArea, DrawingState, BlockView, Rect, IsInner}

-- it is the rectangle with these numbers, whatever the proofs that its edges are at most 65535
abbrev IsThen : Rect → ℕ → ℕ → ℕ → ℕ → Type 0
IsThen b x y width height = (right : x + width ≤ 65535) (bottom : y + height ≤ 65535) →
    (record { x = x; y = y; width = width; height = height; right = right; bottom = bottom }) ≡ b

is_then : (b : Rect) → IsThen b b.x b.y b.width b.height
is_then b right bottom =
    ap₂ (λ (r : b.x + b.width ≤ 65535) (s : b.y + b.height ≤ 65535). record { x = b.x; y = b.y; width = b.width; height = b.height; right = r; bottom = s }) (le_prop right b.right) (le_prop bottom b.bottom)

pub same_rect : (a b : Rect) → a.x ≡ b.x → a.y ≡ b.y → a.width ≡ b.width → a.height ≡ b.height → a ≡ b
same_rect a b x y width height =
    subst (λ (n : ℕ). IsThen b n a.y a.width a.height) (sym x)
    (subst (λ (n : ℕ). IsThen b b.x n a.width a.height) (sym y)
    (subst (λ (n : ℕ). IsThen b b.x b.y n a.height) (sym width)
    (subst (λ (n : ℕ). IsThen b b.x b.y b.width n) (sym height) (is_then b)))) a.right a.bottom

-- the area inside a block is unique
pub inner_once : (block : Option BlockView) (area inner other : Rect) → IsInner block area inner → IsInner block area other → inner ≡ other
inner_once block area inner other h k =
    same_rect inner other (h.x ∙ sym k.x) (h.y ∙ sym k.y) (h.width ∙ sym k.width) (h.height ∙ sym k.height)

-- the last drawn area is unique
pub last_area_once : (document : DocumentState) (drawing : DrawingState) (inner other : Rect) → IsLastArea document drawing inner → IsLastArea document drawing other → inner ≡ other
last_area_once document drawing inner other h k =
    let x : inner.x ≡ other.x = h.x ∙ sym k.x in
    let y : inner.y ≡ other.y = h.y ∙ sym k.y in
    same_rect inner other x y
    (h.width ∙ ap (λ (n : ℕ). min document.layout.settings.inner_width (65535 - n)) x ∙ sym k.width)
    (h.height ∙ ap (λ (n : ℕ). min drawing.height (65535 - n)) y ∙ sym k.height)
