-- The cells of a buffer as a terminal shows them, from one cell to the next; and that they are
-- whole clusters.
use Rattle.std.proofs.Common.{Bool, ◌≡◌, ℕ, zero, suc, ◌+◌, ◌-◌, ◌*◌, ◌/◌, ◌%◌, ◌<◌, ◌≤◌, true, false, ◌&&◌, ◌⊎◌, inl, inr, ⊎_elim, List, [], ◌∷◌, ◌++◌, length, map, take, replicate, refl, sym, ap, ◌∙◌, arith, ltb, leb}
use Rattle.std.proofs.Common.{set, append_assoc, cond, ◌==◌, subst}
use Rattle.std.specs.Prelude.{chars}
use Rattle.std.specs.Int.RustNames.{bit_and}
use Rattle.std.proofs.Math.Nat.{mod-lt, div-lt_iff_lt-mul, mul-le-mul_left}
use Rattle.std.proofs.Math.Seq.{take-length}
use Rattle.std.proofs.lemmas.List.{append-nil, take_more_set, map-append, replicate_more}
use Rattle.std.proofs.lemmas.Bool.{cases_Bool, cond-true, cond-false, and_parts, lt-ltb, le-leb, ltb-true, leb-true}
use Rattle.std.proofs.lemmas.Bool.Decides.{nat_tests}
use Rattle.std.proofs.lemmas.Nat.{and_le_r}
use Rattle.textarea_screen.specs.Cell.{CellView, fresh_cell, cell_view}
use Rattle.textarea_screen.specs.declared.screen.cell.Cell.{Cell}
use Rattle.textarea_screen.specs.declared.screen.buffer.Buffer.{Buffer}
use Rattle.textarea_screen.specs.declared.screen.rect.Rect.{Rect}
use Rattle.textarea_terminal.specs.Disputed.{can_widen, before_selector}
use Rattle.textarea_terminal.specs.Pen.{look_of, in_look}
use Rattle.textarea_terminal.specs.declared.output.look.Pen.{Pen}
use Rattle.textarea_terminal.specs.declared.output.colors.Colors.{Colors}
use Rattle.textarea_terminal.specs.PaintCells.{cluster_columns, part_or_blank, shown_text, is_half, one_intensity, shown_look, displayed_alike, blanked, begins_empty, fits_in_row, displayed}
use Rattle.textarea_terminal.specs.PaintCells.{cell_in, cells_at, frame_of_buffer, can_begin, are_whole}
use Rattle.textarea_terminal.proofs.ScreenPlain.{cluster_columns-blank}
use Rattle.std.proofs.Math.Bool.{and-false}

-- ---- from one cell to the next

pub cells_from-next : (area : Rect) (buffer : Buffer) (index size : ℕ) → index < size →
    cells_at area buffer index (size - index) ≡ cell_in area buffer index ∷ cells_at area buffer (index + 1) (size - (index + 1))
cells_from-next area buffer index size within =
    let more : size - index ≡ suc (size - (index + 1)) = omega arith in
    ap (cells_at area buffer index) more

pub begins_empty-next : (area : Rect) (buffer : Buffer) (index end size : ℕ) → index < end → end ≤ size →
    begins_empty (end - index) (cells_at area buffer index (size - index))
    ≡ (is_half (cell_in area buffer index) && begins_empty (end - (index + 1)) (cells_at area buffer (index + 1) (size - (index + 1))))
begins_empty-next area buffer index end size within fit =
    let more : end - index ≡ suc (end - (index + 1)) = omega arith in
    ap (begins_empty (end - index)) (cells_from-next area buffer index size (omega arith))
    ∙ ap (λ count. begins_empty count (cell_in area buffer index ∷ cells_at area buffer (index + 1) (size - (index + 1)))) more

-- ---- one cell

-- a cell that belongs to no cluster before it, and those after it
displayed-next : (colors : Colors) (area : Rect) (buffer : Buffer) (index halves size : ℕ) (fits : Bool) → index < size → halves ≡ 0 →
    fits_in_row area.width index (cell_in area buffer index) (cells_at area buffer (index + 1) (size - (index + 1))) ≡ fits →
    displayed colors area.width index halves (cells_at area buffer index (size - index))
    ≡ cond fits
    (displayed_alike colors (cell_in area buffer index) ∷ displayed colors area.width (index + 1) (cluster_columns (shown_text (cell_in area buffer index).symbol) - 1) (cells_at area buffer (index + 1) (size - (index + 1))))
    (blanked colors (cell_in area buffer index) ∷ displayed colors area.width (index + 1) 0 (cells_at area buffer (index + 1) (size - (index + 1))))
displayed-next colors area buffer index halves size fits within none fit =
    let cell = cell_in area buffer index in
    let cells = cells_at area buffer (index + 1) (size - (index + 1)) in
    ap (displayed colors area.width index halves) (cells_from-next area buffer index size within)
    ∙ ap (λ count. displayed colors area.width index count (cell ∷ cells)) none
    ∙ ap (λ b. cond b (displayed_alike colors cell ∷ displayed colors area.width (index + 1) (cluster_columns (shown_text cell.symbol) - 1) cells)
    (blanked colors cell ∷ displayed colors area.width (index + 1) 0 cells)) fit

-- the cell of a source, with what is shown of its cluster
pub fill-visible : (colors : Colors) (area : Rect) (buffer : Buffer) (index halves size : ℕ) (source look : Pen) (symbol : List ℕ) (columns left : ℕ) (view : CellView) → index < size →
    halves ≡ 0 → in_look source symbol ≡ cell_in area buffer index → look ≡ shown_look colors source → columns ≡ cluster_columns symbol → view ≡ in_look look (shown_text symbol) →
    left ≡ cluster_columns (shown_text symbol) - 1 →
    (ltb 0 columns && leb (index % area.width + columns) area.width && begins_empty (columns - 1) (cells_at area buffer (index + 1) (size - (index + 1)))) ≡ true →
    displayed colors area.width index halves (cells_at area buffer index (size - index))
    ≡ view ∷ displayed colors area.width (index + 1) left (cells_at area buffer (index + 1) (size - (index + 1)))
fill-visible colors area buffer index halves size source look symbol columns left view within none is look_is columns_is view_is left_is fit =
    let cells = cells_at area buffer (index + 1) (size - (index + 1)) in
    let fit_symbol : fits_in_row area.width index (in_look source symbol) cells ≡ true =
    subst (λ n. (ltb 0 n && leb (index % area.width + n) area.width && begins_empty (n - 1) cells) ≡ true) columns_is fit in
    let fit_cell : fits_in_row area.width index (cell_in area buffer index) cells ≡ true = subst (λ (cell : CellView). fits_in_row area.width index cell cells ≡ true) is fit_symbol in
    displayed-next colors area buffer index halves size true within none fit_cell
    ∙ ap (λ (cell : CellView). displayed_alike colors cell ∷ displayed colors area.width (index + 1) (cluster_columns (shown_text cell.symbol) - 1) cells) (sym is)
    ∙ ap (λ (first : CellView). first ∷ displayed colors area.width (index + 1) (cluster_columns (shown_text symbol) - 1) cells)
    (sym (view_is ∙ ap (λ (l : Pen). in_look l (shown_text symbol)) look_is))
    ∙ ap (λ n. view ∷ displayed colors area.width (index + 1) n cells) (sym left_is)

-- the cell of a source whose cluster can't be shown
pub fill-blank : (colors : Colors) (area : Rect) (buffer : Buffer) (index halves size : ℕ) (source look : Pen) (symbol : List ℕ) (columns : ℕ) (view : CellView) → index < size →
    halves ≡ 0 → in_look source symbol ≡ cell_in area buffer index → look ≡ shown_look colors source → columns ≡ cluster_columns symbol → view ≡ in_look look (32 ∷ []) →
    (ltb 0 columns && leb (index % area.width + columns) area.width && begins_empty (columns - 1) (cells_at area buffer (index + 1) (size - (index + 1)))) ≡ false →
    displayed colors area.width index halves (cells_at area buffer index (size - index))
    ≡ view ∷ displayed colors area.width (index + 1) 0 (cells_at area buffer (index + 1) (size - (index + 1)))
fill-blank colors area buffer index halves size source look symbol columns view within none is look_is columns_is view_is other =
    let cells = cells_at area buffer (index + 1) (size - (index + 1)) in
    let other_symbol : fits_in_row area.width index (in_look source symbol) cells ≡ false =
    subst (λ n. (ltb 0 n && leb (index % area.width + n) area.width && begins_empty (n - 1) cells) ≡ false) columns_is other in
    let other_cell : fits_in_row area.width index (cell_in area buffer index) cells ≡ false = subst (λ (cell : CellView). fits_in_row area.width index cell cells ≡ false) is other_symbol in
    displayed-next colors area buffer index halves size false within none other_cell
    ∙ ap (λ (cell : CellView). blanked colors cell ∷ displayed colors area.width (index + 1) 0 cells) (sym is)
    ∙ ap (λ (first : CellView). first ∷ displayed colors area.width (index + 1) 0 cells) (sym (view_is ∙ ap (λ (l : Pen). in_look l (32 ∷ [])) look_is))

-- what is shown of a cluster has some columns, and at most those of the whole
pub shown-columns : (text : List ℕ) → 0 < cluster_columns text → (0 < cluster_columns (shown_text text)) × (cluster_columns (shown_text text) ≤ cluster_columns text)
unfolding shown_text
shown-columns text some =
    let part = before_selector (chars text) in
    let test = ltb 0 (cluster_columns part) && leb (cluster_columns part) (cluster_columns text) in
    ⊎_elim
    (λ widens.
    rw widens
    (⊎_elim
    (λ fits.
    let components = and_parts (ltb 0 (cluster_columns part)) (leb (cluster_columns part) (cluster_columns text)) fits in
    rw fits (ltb-true 0 (cluster_columns part) components.0, leb-true (cluster_columns part) (cluster_columns text) components.1))
    (λ other. rw other (omega (arith, cluster_columns-blank), omega (arith, cluster_columns-blank)))
    (cases_Bool test)))
    (λ settled. rw settled (some, omega arith))
    (cases_Bool (can_widen text))

pub shown-whole : (text : List ℕ) → can_widen text ≡ false → shown_text text ≡ text
unfolding shown_text
shown-whole text settled = cond-false (can_widen text) (part_or_blank (before_selector (chars text)) text) text settled

pub shown-part : (text part : List ℕ) (columns whole : ℕ) → can_widen text ≡ true → part ≡ before_selector (chars text) → columns ≡ cluster_columns part → whole ≡ cluster_columns text →
    0 < columns → columns ≤ whole → shown_text text ≡ part
unfolding shown_text
shown-part text part columns whole widens is columns_is whole_is some fits =
    let first : ltb 0 (cluster_columns part) ≡ true = lt-ltb 0 (cluster_columns part) (omega arith) in
    let second : leb (cluster_columns part) (cluster_columns text) ≡ true = le-leb (cluster_columns part) (cluster_columns text) (omega arith) in
    cond-true (can_widen text) (part_or_blank (before_selector (chars text)) text) text widens
    ∙ ap (λ p. part_or_blank p text) (sym is)
    ∙ cond-true (ltb 0 (cluster_columns part) && leb (cluster_columns part) (cluster_columns text)) part (32 ∷ []) (rw (first, second) refl)

pub shown-blank : (text part : List ℕ) (columns whole : ℕ) → can_widen text ≡ true → part ≡ before_selector (chars text) → columns ≡ cluster_columns part → whole ≡ cluster_columns text →
    (columns ≡ 0) ⊎ (whole < columns) → shown_text text ≡ 32 ∷ []
unfolding shown_text
shown-blank text part columns whole widens is columns_is whole_is other =
    let test : (ltb 0 (cluster_columns part) && leb (cluster_columns part) (cluster_columns text)) ≡ false =
    ⊎_elim
    (λ none. let first : ltb 0 (cluster_columns part) ≡ false = grind (arith, nat_tests) in rw first refl)
    (λ past. let second : leb (cluster_columns part) (cluster_columns text) ≡ false = grind (arith, nat_tests) in rw second (and-false (ltb 0 (cluster_columns part))))
    other in
    cond-true (can_widen text) (part_or_blank (before_selector (chars text)) text) text widens
    ∙ ap (λ p. part_or_blank p text) (sym is)
    ∙ cond-false (ltb 0 (cluster_columns part) && leb (cluster_columns part) (cluster_columns text)) part (32 ∷ []) test

-- ---- whole clusters

begins_empty-long : (count : ℕ) (cells : List CellView) → begins_empty count cells ≡ true → count ≤ length cells
begins_empty-long zero cells empty = omega arith
begins_empty-long (suc count) [] empty = cc empty
begins_empty-long (suc count) (cell ∷ cells) empty = omega (arith, begins_empty-long count cells (and_parts (is_half cell) (begins_empty count cells) empty).1)

one_intensity-most : (bits : ℕ) → one_intensity bits ≤ bits
one_intensity-most bits = elim (bit_and bits 3 == 3) as (λ b. cond b (bits - 2) bits ≤ bits) [ true ↦ omega arith | false ↦ omega arith ]

visible-bits : (colors : Colors) (cell : CellView) → ltb (shown_look colors (look_of cell)).modifier.0 512 ≡ true
visible-bits colors cell = lt-ltb _ _ (omega (arith, one_intensity-most (bit_and cell.modifier.0 511), and_le_r cell.modifier.0 511))

visible-begins : (colors : Colors) (columns index : ℕ) (cell : CellView) (cells : List CellView) → fits_in_row columns index cell cells ≡ true → can_begin columns index (displayed_alike colors cell) ≡ true
visible-begins colors columns index cell cells fit =
    let width = cluster_columns cell.symbol in
    let room = (and_parts (ltb 0 width && leb (index % columns + width) columns) (begins_empty (width - 1) cells) fit).0 in
    let components = and_parts (ltb 0 width) (leb (index % columns + width) columns) room in
    let shown = shown-columns cell.symbol (ltb-true 0 width components.0) in
    let first : ltb 0 (cluster_columns (shown_text cell.symbol)) ≡ true = lt-ltb 0 (cluster_columns (shown_text cell.symbol)) shown.0 in
    let second : leb (index % columns + cluster_columns (shown_text cell.symbol)) columns ≡ true =
    le-leb (index % columns + cluster_columns (shown_text cell.symbol)) columns (omega (arith, shown.1, leb-true (index % columns + width) columns components.1)) in
    rw (first, second) (visible-bits colors cell)

blank-begins : (colors : Colors) (columns index : ℕ) (cell : CellView) → 0 < columns → can_begin columns index (blanked colors cell) ≡ true
blank-begins colors columns index cell some =
    let room : index % columns + 1 ≤ columns = omega (arith, mod-lt index some) in
    rw (cluster_columns-blank, visible-bits colors cell, le-leb (index % columns + 1) columns room) refl

pub displayed-whole : (colors : Colors) (columns index halves : ℕ) (cells : List CellView) → 0 < columns → halves ≤ length cells → are_whole columns index halves (displayed colors columns index halves cells) ≡ true
displayed-whole colors columns index zero [] some long = refl
displayed-whole colors columns index (suc halves) [] some long = absurd (omega arith)
displayed-whole colors columns index (suc halves) (cell ∷ cells) some long = displayed-whole colors columns (index + 1) halves cells some (omega arith)
displayed-whole colors columns index zero (cell ∷ cells) some long =
    ⊎_elim
    (λ fit.
    let width = cluster_columns cell.symbol in
    let parts = and_parts (ltb 0 width && leb (index % columns + width) columns) (begins_empty (width - 1) cells) fit in
    let shown = shown-columns cell.symbol (ltb-true 0 width (and_parts (ltb 0 width) (leb (index % columns + width) columns) parts.0).0) in
    rw fit (rw (visible-begins colors columns index cell cells fit)
    (displayed-whole colors columns (index + 1) (cluster_columns (shown_text cell.symbol) - 1) cells some (omega (arith, shown.1, begins_empty-long (width - 1) cells parts.1)))))
    (λ other.
    rw other (rw (blank-begins colors columns index cell some, cluster_columns-blank) (displayed-whole colors columns (index + 1) 0 cells some (omega arith))))
    (cases_Bool (fits_in_row columns index cell cells))

-- the cells of an erased terminal
pub fresh-whole : (columns index size : ℕ) → 0 < columns → are_whole columns index 0 (replicate size fresh_cell) ≡ true
fresh-whole columns index zero some = refl
fresh-whole columns index (suc size) some =
    let room : index % columns + 1 ≤ columns = omega (arith, mod-lt index some) in
    rw (cluster_columns-blank, le-leb (index % columns + 1) columns room) (fresh-whole columns (index + 1) size some)

-- ---- a row's end

pub row-fits : (index columns height width : ℕ) → index < height * width → 0 < columns → columns ≤ width - index % width → index + 1 + (columns - 1) ≤ height * width
row-fits index columns height zero within some fit = absurd (omega (arith, within))
row-fits index columns height (suc less) within some fit =
    let width = suc less in
    let wide : 0 < width = omega arith in
    let row : index / width < height = (div-lt_iff_lt-mul {k = width} {x = index} {y = height} wide).1 within in
    let rows : width * (index / width + 1) ≤ width * height = mul-le-mul_left width (omega arith) in
    omega (arith, rows, mod-lt index wide)

-- ---- all cells

pub fill-start : (colors : Colors) (area : Rect) (buffer : Buffer) → displayed colors area.width 0 0 (cells_at area buffer 0 (area.height * area.width - 0)) ≡ frame_of_buffer colors area buffer
fill-start colors area buffer =
    let all : area.height * area.width - 0 ≡ area.height * area.width = omega arith in
    ap (λ count. displayed colors area.width 0 0 (cells_at area buffer 0 count)) all

pub fill-step : (colors : Colors) (area : Rect) (buffer : Buffer) (cells : List Cell) (index halves left : ℕ) (cell : Cell) (after frame : List CellView) → index < length cells →
    displayed colors area.width index halves (cells_at area buffer index (area.height * area.width - index)) ≡ cell_view cell ∷ after →
    map cell_view (take index cells) ++ displayed colors area.width index halves (cells_at area buffer index (area.height * area.width - index)) ≡ frame →
    map cell_view (take (index + 1) (set cells index cell)) ++ after ≡ frame
fill-step colors area buffer cells index halves left cell after frame within next before =
    ap (λ items. map cell_view items ++ after) (take_more_set cells index cell within)
    ∙ ap (λ visible. visible ++ after) (map-append cell_view (take index cells) (cell ∷ []))
    ∙ append_assoc (map cell_view (take index cells)) (cell_view cell ∷ []) after
    ∙ ap (λ more. map cell_view (take index cells) ++ more) (sym next)
    ∙ before

pub fill-end : (colors : Colors) (area : Rect) (buffer : Buffer) (cells : List Cell) (index halves : ℕ) (frame : List CellView) → index ≡ length cells → length cells ≡ area.height * area.width →
    map cell_view (take index cells) ++ displayed colors area.width index halves (cells_at area buffer index (area.height * area.width - index)) ≡ frame → map cell_view cells ≡ frame
fill-end colors area buffer cells index halves frame at full before =
    let none : area.height * area.width - index ≡ 0 = omega arith in
    let all : take index cells ≡ cells = ap (λ k. take k cells) at ∙ take-length cells in
    sym (append-nil (map cell_view cells))
    ∙ ap (λ items. map cell_view items ++ []) (sym all)
    ∙ ap (λ count. map cell_view (take index cells) ++ displayed colors area.width index halves (cells_at area buffer index count)) (sym none)
    ∙ before

-- ---- fresh cells

pub fresh-more : (cells : List Cell) (cell : Cell) (count : ℕ) → cell_view cell ≡ fresh_cell → map cell_view cells ≡ replicate count fresh_cell →
    map cell_view (cells ++ cell ∷ []) ≡ replicate (count + 1) fresh_cell
fresh-more cells cell count is all =
    map-append cell_view cells (cell ∷ []) ∙ ap (λ visible. map cell_view cells ++ visible ∷ []) is ∙ ap (λ visible. visible ++ fresh_cell ∷ []) all ∙ replicate_more count fresh_cell

-- ---- whole clusters of an area, which may have no column

zero_or : (n : ℕ) → (n ≡ 0) ⊎ (0 < n)
zero_or zero = inl refl
zero_or (suc n) = inr (omega arith)

pub frame-whole : (colors : Colors) (area : Rect) (buffer : Buffer) → are_whole area.width 0 0 (frame_of_buffer colors area buffer) ≡ true
frame-whole colors area buffer =
    ⊎_elim
    (λ none.
    let empty : area.height * area.width ≡ 0 = rw none (omega arith) in
    ap (λ count. are_whole area.width 0 0 (displayed colors area.width 0 0 (cells_at area buffer 0 count))) empty)
    (λ some. displayed-whole colors area.width 0 0 (cells_at area buffer 0 (area.height * area.width)) some (omega arith))
    (zero_or area.width)

pub erased-whole : (height width : ℕ) → are_whole width 0 0 (replicate (height * width) fresh_cell) ≡ true
erased-whole height width =
    ⊎_elim
    (λ none.
    let empty : height * width ≡ 0 = rw none (omega arith) in
    ap (λ count. are_whole width 0 0 (replicate count fresh_cell)) empty)
    (λ some. fresh-whole width 0 (height * width) some)
    (zero_or width)

-- the same of a number of cells, which is 0 where there is no column
pub fresh-cells-whole : (columns count : ℕ) → (0 < count → 0 < columns) → are_whole columns 0 0 (replicate count fresh_cell) ≡ true
fresh-cells-whole columns zero some = refl
fresh-cells-whole columns (suc count) some = fresh-whole columns 0 (suc count) (some (omega arith))
