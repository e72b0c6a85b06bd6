-- The cells of a frame: whole clusters, each with its halves.
use Rattle.std.proofs.Common.{◌≡◌, ℕ, zero, suc, ◌+◌, ◌-◌, ◌%◌, ◌<◌, ◌≤◌, true, false, ◌&&◌, ◌==◌, ⊎_elim, List, [], ◌∷◌, length, drop, refl, ap, subst, arith, ltb, leb}
use Rattle.std.proofs.lemmas.Bool.{cases_Bool, and_parts, eqb-true, ltb-true}
use Rattle.std.proofs.lemmas.List.{nil_from_length}
use Rattle.textarea_screen.specs.Cell.{CellView}
use Rattle.textarea_screen.specs.declared.screen.color.Color.{Color}
use Rattle.textarea_screen.specs.declared.screen.color.Color.TheVariants.{Reset}
use Rattle.textarea_terminal.specs.PaintCells.{cluster_columns, half, is_half, is_own, is_plain_half, can_begin, are_whole}
use Rattle.unicode_segmentation.proofs.Computing.{unicode_segmentation}

-- ---- cells

own-is : (color : Color) → is_own color ≡ true → color ≡ Reset
own-is Reset own = refl
own-is color own = cc

pub half-is : (cell : CellView) → is_plain_half cell ≡ true → cell ≡ half
half-is cell plain =
    let symbol_bg = and_parts (is_half cell && is_own cell.fg && is_own cell.bg) (cell.modifier.0 == 0) plain in
    let symbol_fg = and_parts (is_half cell && is_own cell.fg) (is_own cell.bg) symbol_bg.0 in
    let symbol = and_parts (is_half cell) (is_own cell.fg) symbol_fg.0 in
    let empty : cell.symbol ≡ [] = nil_from_length cell.symbol (eqb-true (length cell.symbol) 0 symbol.0) in
    let fg = own-is cell.fg symbol.1 in
    let bg = own-is cell.bg symbol_fg.1 in
    let none : cell.modifier.0 ≡ 0 = eqb-true cell.modifier.0 0 symbol_bg.1 in
    λ i. record { symbol = empty i; fg = fg i; bg = bg i; modifier = record { 0 = none i } }

pub plain_half-half : (cell : CellView) → is_plain_half cell ≡ true → is_half cell ≡ true
plain_half-half cell plain = ap is_half (half-is cell plain)

-- the empty text is no cluster
cluster_columns-nil : cluster_columns [] ≡ 0
unfolding unicode_segmentation cluster_columns
cluster_columns-nil = refl

pub begins-whole : (columns index : ℕ) (cell : CellView) → can_begin columns index cell ≡ true → is_half cell ≡ false
begins-whole columns index cell begins =
    let width = cluster_columns cell.symbol in
    let components = and_parts (ltb 0 width) (leb (index % columns + width) columns) (and_parts (ltb 0 width && leb (index % columns + width) columns) (ltb cell.modifier.0 512) begins).0 in
    let some : 0 < width = ltb-true 0 width components.0 in
    ⊎_elim
    (λ empty.
    let none : cell.symbol ≡ [] = nil_from_length cell.symbol (eqb-true (length cell.symbol) 0 empty) in
    absurd (omega (arith, some, ap cluster_columns none, cluster_columns-nil)))
    (λ whole. whole)
    (cases_Bool (is_half cell))

-- ---- whole clusters

-- a cell that is no half begins a cluster, and whole clusters come after it
pub whole-unit : (columns index halves : ℕ) (cell : CellView) (cells : List CellView) → is_half cell ≡ false → are_whole columns index halves (cell ∷ cells) ≡ true →
    (can_begin columns index cell ≡ true) × (are_whole columns (index + 1) (cluster_columns cell.symbol - 1) cells ≡ true)
whole-unit columns index zero cell cells not_half whole = and_parts (can_begin columns index cell) (are_whole columns (index + 1) (cluster_columns cell.symbol - 1) cells) whole
whole-unit columns index (suc halves) cell cells not_half whole =
    let components = and_parts (is_plain_half cell) (are_whole columns (index + 1) halves cells) whole in
    let other = plain_half-half cell components.0 in
    absurd (cc (other, not_half))

pub columns-some : (columns index : ℕ) (cell : CellView) → can_begin columns index cell ≡ true → 0 < cluster_columns cell.symbol
columns-some columns index cell begins =
    let width = cluster_columns cell.symbol in
    let room = (and_parts (ltb 0 width && leb (index % columns + width) columns) (ltb cell.modifier.0 512) begins).0 in
    ltb-true 0 width (and_parts (ltb 0 width) (leb (index % columns + width) columns) room).0

pub whole-drop : (columns : ℕ) (count index halves : ℕ) (cells : List CellView) → are_whole columns index halves cells ≡ true → count ≤ length cells →
    (left : ℕ) × (are_whole columns (index + count) left (drop count cells) ≡ true)
whole-drop columns zero index halves cells whole within = (halves, subst (λ p. are_whole columns p halves cells ≡ true) (omega arith) whole)
whole-drop columns (suc count) index halves [] whole within = absurd (omega arith)
whole-drop columns (suc count) index (suc halves) (cell ∷ cells) whole within =
    let rest = (and_parts (is_plain_half cell) (are_whole columns (index + 1) halves cells) whole).1 in
    let dropped = whole-drop columns count (index + 1) halves cells rest (omega arith) in
    let at : index + 1 + count ≡ index + suc count = omega arith in
    (dropped.0, subst (λ p. are_whole columns p dropped.0 (drop count cells) ≡ true) at dropped.1)
whole-drop columns (suc count) index zero (cell ∷ cells) whole within =
    let rest = (and_parts (can_begin columns index cell) (are_whole columns (index + 1) (cluster_columns cell.symbol - 1) cells) whole).1 in
    let dropped = whole-drop columns count (index + 1) (cluster_columns cell.symbol - 1) cells rest (omega arith) in
    let at : index + 1 + count ≡ index + suc count = omega arith in
    (dropped.0, subst (λ p. are_whole columns p dropped.0 (drop count cells) ≡ true) at dropped.1)
