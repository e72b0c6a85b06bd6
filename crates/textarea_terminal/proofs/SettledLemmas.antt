-- The cells of a frame as a terminal of the family shows them.
use Rattle.std.proofs.Common.{◌≡◌, ℕ, zero, suc, ◌+◌, ◌-◌, ◌<◌, ◌≤◌, true, false, ◌==◌, ⊎_elim, List, [], ◌∷◌, ◌++◌, length, map, drop, replicate, refl, sym, ap, subst, ◌∙◌, arith}
use Rattle.std.proofs.lemmas.Bool.{cases_Bool, cond-true, cond-false, and_parts, ltb-true}
use Rattle.std.proofs.lemmas.Bool.Decides.{nat_tests}
use Rattle.std.proofs.lemmas.List.{append-nil, length-append, length-drop, length-map, length-replicate}
use Rattle.textarea_screen.specs.Cell.{CellView, fresh_cell}
use Rattle.textarea_terminal.specs.Disputed.{is_disputed}
use Rattle.textarea_terminal.specs.PaintCells.{cluster_columns, half, is_half, is_plain_half, can_begin, are_whole}
use Rattle.textarea_terminal.specs.Pen.{in_look, look_of}
use Rattle.textarea_terminal.specs.Screen.{IsOfFamily, CountsAlike, begins_text, text_cell, cluster_cells, first_of, settled_cells, settled_frame}
use Rattle.textarea_terminal.specs.declared.output.look.Pen.{Pen}
use Rattle.textarea_terminal.proofs.DisputedBlank.{is_disputed-blank}
use Rattle.textarea_terminal.proofs.PaintFrames.{begins-whole, half-is, columns-some}
use Rattle.textarea_terminal.proofs.ScreenPlain.{cluster_columns-blank}

abbrev pub Shown : Type 0
Shown = List ℕ → List (List ℕ)

-- ---- the cells of one cluster

pub agreed-cells : (shown_as : Shown) (look : Pen) (text : List ℕ) → is_disputed text ≡ false →
    cluster_cells shown_as look text ≡ in_look look text ∷ replicate (cluster_columns text - 1) half
unfolding cluster_cells
agreed-cells shown_as look text agreed =
    cond-false (is_disputed text) (map (text_cell look) (shown_as text)) (in_look look text ∷ replicate (cluster_columns text - 1) half) agreed

pub disputed-cells : (shown_as : Shown) (look : Pen) (text : List ℕ) → is_disputed text ≡ true → cluster_cells shown_as look text ≡ map (text_cell look) (shown_as text)
unfolding cluster_cells
disputed-cells shown_as look text disputed =
    cond-true (is_disputed text) (map (text_cell look) (shown_as text)) (in_look look text ∷ replicate (cluster_columns text - 1) half) disputed

pub agreed-length : (shown_as : Shown) (look : Pen) (text : List ℕ) → 0 < cluster_columns text → is_disputed text ≡ false → length (cluster_cells shown_as look text) ≡ cluster_columns text
agreed-length shown_as look text some agreed =
    let cells = ap length (agreed-cells shown_as look text agreed) in
    omega (arith, length-replicate (cluster_columns text - 1) half)

pub cluster_cells-length : (shown_as : Shown) (look : Pen) (text : List ℕ) → IsOfFamily shown_as → 0 < cluster_columns text → length (cluster_cells shown_as look text) ≤ cluster_columns text
cluster_cells-length shown_as look text family some =
    ⊎_elim
    (λ disputed. omega (arith, ap length (disputed-cells shown_as look text disputed), length-map (shown_as text) (text_cell look), family.width text some))
    (λ agreed. omega (arith, agreed-length shown_as look text some agreed))
    (cases_Bool (is_disputed text))

pub settled_cells-length : (shown_as : Shown) (cell : CellView) → IsOfFamily shown_as → 0 < cluster_columns cell.symbol → length (settled_cells shown_as cell) ≡ cluster_columns cell.symbol
settled_cells-length shown_as cell family some =
    let cells = cluster_cells shown_as (look_of cell) cell.symbol in
    let blank = in_look (look_of cell) (32 ∷ []) in
    omega (
      arith,
      length-append cells (replicate (cluster_columns cell.symbol - length cells) blank),
      length-replicate (cluster_columns cell.symbol - length cells) blank,
      cluster_cells-length shown_as (look_of cell) cell.symbol family some,
    )

-- a blank is shown as it is
pub blank-cells : (shown_as : Shown) (look : Pen) → cluster_cells shown_as look (32 ∷ []) ≡ in_look look (32 ∷ []) ∷ []
blank-cells shown_as look =
    agreed-cells shown_as look (32 ∷ []) is_disputed-blank ∙ ap (λ n. in_look look (32 ∷ []) ∷ replicate (n - 1) half) cluster_columns-blank

-- the first cell is no half

whole-blank : (look : Pen) (count : ℕ) (other : CellView) (more : List CellView) → 0 < count → is_half (first_of other (replicate count (in_look look (32 ∷ [])) ++ more)) ≡ false
whole-blank look zero other more some = absurd (omega arith)
whole-blank look (suc count) other more some = refl

whole-text : (look : Pen) (text : List ℕ) → 0 < length text → is_half (text_cell look text) ≡ false
whole-text look [] some = absurd (omega arith)
whole-text look (c ∷ text) some = let test : (length (c ∷ text) == 0) ≡ false = grind (arith, nat_tests) in test

whole-texts : (look : Pen) (other : CellView) (texts : List (List ℕ)) (width : ℕ) → begins_text texts ≡ true → 0 < width →
    is_half (first_of other (map (text_cell look) texts ++ replicate (width - length (map (text_cell look) texts)) (in_look look (32 ∷ [])))) ≡ false
whole-texts look other [] width begins some =
    let blank = in_look look (32 ∷ []) in
    let First : List CellView → Type 0 = λ cells. is_half (first_of other cells) ≡ false in
    subst First (append-nil (replicate (width - 0) blank)) (whole-blank look (width - 0) other [] (omega arith))
whole-texts look other (text ∷ texts) width begins some = whole-text look text (ltb-true 0 (length text) begins)

pub settled-first : (shown_as : Shown) (cell : CellView) → IsOfFamily shown_as → 0 < cluster_columns cell.symbol → is_half cell ≡ false →
    is_half (first_of cell (settled_cells shown_as cell)) ≡ false
settled-first shown_as cell family some whole =
    ⊎_elim
    (λ disputed.
    rw (disputed-cells shown_as (look_of cell) cell.symbol disputed)
    (whole-texts (look_of cell) cell (shown_as cell.symbol) (cluster_columns cell.symbol) (family.begins cell.symbol some) some))
    (λ agreed. rw (agreed-cells shown_as (look_of cell) cell.symbol agreed) whole)
    (cases_Bool (is_disputed cell.symbol))

-- ---- all cells

pub settled-length : (shown_as : Shown) (first cells : List CellView) → length (settled_frame shown_as first cells) ≡ length cells
settled-length shown_as [] [] = refl
settled-length shown_as (shown ∷ first) [] = refl
settled-length shown_as [] (cell ∷ cells) = ap suc (settled-length shown_as (drop 1 (settled_cells shown_as cell)) cells)
settled-length shown_as (shown ∷ first) (cell ∷ cells) = ap suc (settled-length shown_as first cells)

rest-length : (shown_as : Shown) (cell : CellView) → IsOfFamily shown_as → 0 < cluster_columns cell.symbol → length (drop 1 (settled_cells shown_as cell)) ≡ cluster_columns cell.symbol - 1
rest-length shown_as cell family some =
    length-drop 1 (settled_cells shown_as cell) ∙ ap (λ n. n - 1) (settled_cells-length shown_as cell family some)

-- the halves after the first cell of a cluster are of the number that its terminal's cells have
pub rest-whole : (shown_as : Shown) (columns index : ℕ) (cell : CellView) (cells : List CellView) → IsOfFamily shown_as → 0 < cluster_columns cell.symbol →
    are_whole columns index (cluster_columns cell.symbol - 1) cells ≡ true → are_whole columns index (length (drop 1 (settled_cells shown_as cell))) cells ≡ true
rest-whole shown_as columns index cell cells family some whole =
    subst (λ n. are_whole columns index n cells ≡ true) (sym (rest-length shown_as cell family some)) whole

-- the cells from an index on
pub settled-drop : (shown_as : Shown) → IsOfFamily shown_as → (columns count index : ℕ) (first cells : List CellView) → are_whole columns index (length first) cells ≡ true → count ≤ length cells →
    (left : List CellView) × (are_whole columns (index + count) (length left) (drop count cells) ≡ true) × (drop count (settled_frame shown_as first cells) ≡ settled_frame shown_as left (drop count cells))
settled-drop shown_as family columns zero index first cells whole within =
    (first, subst (λ p. are_whole columns p (length first) cells ≡ true) (omega arith) whole, refl)
settled-drop shown_as family columns (suc count) index first [] whole within = absurd (omega arith)
settled-drop shown_as family columns (suc count) index [] (cell ∷ cells) whole within =
    let components = and_parts (can_begin columns index cell) (are_whole columns (index + 1) (cluster_columns cell.symbol - 1) cells) whole in
    let some = columns-some columns index cell components.0 in
    let at : index + 1 + count ≡ index + suc count = omega arith in
    let dropped = settled-drop shown_as family columns count (index + 1) (drop 1 (settled_cells shown_as cell)) cells (rest-whole shown_as columns (index + 1) cell cells family some components.1) (omega arith) in
    (dropped.0, subst (λ p. are_whole columns p (length dropped.0) (drop count cells) ≡ true) at dropped.1, dropped.2)
settled-drop shown_as family columns (suc count) index (shown ∷ first) (cell ∷ cells) whole within =
    let components = and_parts (is_plain_half cell) (are_whole columns (index + 1) (length first) cells) whole in
    let at : index + 1 + count ≡ index + suc count = omega arith in
    let dropped = settled-drop shown_as family columns count (index + 1) first cells components.1 (omega arith) in
    (dropped.0, subst (λ p. are_whole columns p (length dropped.0) (drop count cells) ≡ true) at dropped.1, dropped.2)

-- ---- erased cells

fresh-cells : (shown_as : Shown) → settled_cells shown_as fresh_cell ≡ fresh_cell ∷ []
fresh-cells shown_as =
    let one = blank-cells shown_as (look_of fresh_cell) in
    rw (one, cluster_columns-blank) refl

pub settled-fresh : (shown_as : Shown) (count : ℕ) → settled_frame shown_as [] (replicate count fresh_cell) ≡ replicate count fresh_cell
settled-fresh shown_as zero = refl
settled-fresh shown_as (suc count) = rw (fresh-cells shown_as) (ap (λ cells. fresh_cell ∷ cells) (settled-fresh shown_as count))

-- ---- a terminal that counts as we do

halves-exact : (look : Pen) (count : ℕ) → map (text_cell look) (replicate count []) ≡ replicate count half
halves-exact look zero = refl
halves-exact look (suc count) = ap (λ cells. half ∷ cells) (halves-exact look count)

text-exact : (cell : CellView) (symbol : List ℕ) → cell.symbol ≡ symbol → is_half cell ≡ false → text_cell (look_of cell) symbol ≡ in_look (look_of cell) symbol
text-exact cell [] is whole = absurd (cc (sym (ap (λ (text : List ℕ). length text == 0) is), whole))
text-exact cell (c ∷ symbol) is whole = refl

cluster-exact : (shown_as : Shown) (cell : CellView) → CountsAlike shown_as → is_half cell ≡ false →
    cluster_cells shown_as (look_of cell) cell.symbol ≡ cell ∷ replicate (cluster_columns cell.symbol - 1) half
cluster-exact shown_as cell alike whole =
    let width = cluster_columns cell.symbol in
    ⊎_elim
    (λ disputed.
    disputed-cells shown_as (look_of cell) cell.symbol disputed ∙ ap (map (text_cell (look_of cell))) (alike cell.symbol)
    ∙ ap (λ more. text_cell (look_of cell) cell.symbol ∷ more) (halves-exact (look_of cell) (width - 1))
    ∙ ap (λ first. first ∷ replicate (width - 1) half) (text-exact cell cell.symbol refl whole))
    (λ agreed. agreed-cells shown_as (look_of cell) cell.symbol agreed)
    (cases_Bool (is_disputed cell.symbol))

settled_cells-exact : (shown_as : Shown) (cell : CellView) → CountsAlike shown_as → is_half cell ≡ false → 0 < cluster_columns cell.symbol →
    settled_cells shown_as cell ≡ cell ∷ replicate (cluster_columns cell.symbol - 1) half
settled_cells-exact shown_as cell alike whole some =
    let width = cluster_columns cell.symbol in
    let cells = cluster-exact shown_as cell alike whole in
    let none : width - length (cluster_cells shown_as (look_of cell) cell.symbol) ≡ 0 =
    omega (arith, ap length cells, length-replicate (width - 1) half) in
    ap (λ n. cluster_cells shown_as (look_of cell) cell.symbol ++ replicate n (in_look (look_of cell) (32 ∷ []))) none
    ∙ append-nil (cluster_cells shown_as (look_of cell) cell.symbol) ∙ cells

pub settled-exact : (shown_as : Shown) → CountsAlike shown_as → (columns index halves : ℕ) (cells : List CellView) → are_whole columns index halves cells ≡ true →
    settled_frame shown_as (replicate halves half) cells ≡ cells
settled-exact shown_as alike columns index zero [] whole = refl
settled-exact shown_as alike columns index (suc halves) [] whole = refl
settled-exact shown_as alike columns index zero (cell ∷ cells) whole =
    let components = and_parts (can_begin columns index cell) (are_whole columns (index + 1) (cluster_columns cell.symbol - 1) cells) whole in
    let unit = settled_cells-exact shown_as cell alike (begins-whole columns index cell components.0) (columns-some columns index cell components.0) in
    rw unit (ap (λ more. cell ∷ more) (settled-exact shown_as alike columns (index + 1) (cluster_columns cell.symbol - 1) cells components.1))
settled-exact shown_as alike columns index (suc halves) (cell ∷ cells) whole =
    let components = and_parts (is_plain_half cell) (are_whole columns (index + 1) halves cells) whole in
    ap (λ more. half ∷ more) (settled-exact shown_as alike columns (index + 1) halves cells components.1) ∙ ap (λ first. first ∷ cells) (sym (half-is cell components.0))
