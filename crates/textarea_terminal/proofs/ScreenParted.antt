-- A disputed cluster that is printed apart: blanks, its address, and the cluster.
use Rattle.std.proofs.Common.{◌≡◌, ℕ, zero, suc, ◌+◌, ◌-◌, ◌*◌, ◌/◌, ◌%◌, ◌<◌, ◌≤◌, true, false, ◌==◌, ⊎_elim, List, [], ◌∷◌, ◌++◌, length, take, drop, reverse, replicate, Option, Some, None, refl, sym, ap, ◌∙◌, arith, append_assoc}
use Rattle.std.proofs.lemmas.Bool.{cases_Bool, cond-false}
use Rattle.std.proofs.lemmas.Bool.Decides.{nat_tests}
use Rattle.std.proofs.lemmas.List.{take_at, drop_at, drop-append-le, drop-replicate, length-append, length-replicate, length-take-le, take-append-drop, drop-drop}
use Rattle.std.proofs.lemmas.Nat.{mod-mul-add}
use Rattle.textarea_screen.specs.Cell.{CellView}
use Rattle.textarea_terminal.specs.Control.Control.{MoveTo, Print}
use Rattle.textarea_terminal.specs.Disputed.{is_disputed}
use Rattle.textarea_terminal.specs.Paint.{PrintsLast, prints_of, moves_of, pens_of}
use Rattle.textarea_terminal.specs.PaintCells.{can_begin, cluster_columns, is_half}
use Rattle.textarea_terminal.specs.Parted.{blank_prints, parted_controls}
use Rattle.textarea_terminal.specs.Pen.{in_look, look_of}
use Rattle.textarea_terminal.specs.Screen.{Terminal, has_plain_modes, apply_control, run, begins_half, mended, mended_back, printed, rest_of, cursor_after, cluster_cells, settled_cells}
use Rattle.textarea_terminal.specs.declared.output.look.Pen.{Pen}
use Rattle.textarea_terminal.proofs.ControlLemmas.{run-append, prints_of-append, moves_of-append, pens_of-append}
use Rattle.textarea_terminal.proofs.PaintFrames.{columns-some}
use Rattle.textarea_terminal.proofs.ScreenMoves.{move-there, print-fits, columns-fit}
use Rattle.textarea_terminal.proofs.ScreenPlain.{cluster_columns-blank}
use Rattle.textarea_terminal.proofs.SettledLemmas.{blank-cells, cluster_cells-length, settled_cells-length}

-- ---- blanks

prints_of-blanks : (count : ℕ) → prints_of (blank_prints count) ≡ replicate count (32 ∷ [])
prints_of-blanks zero = refl
prints_of-blanks (suc count) = ap (λ texts. (32 ∷ []) ∷ texts) (prints_of-blanks count)

moves_of-blanks : (count : ℕ) → moves_of (blank_prints count) ≡ 0
moves_of-blanks zero = refl
moves_of-blanks (suc count) = moves_of-blanks count

pens_of-blanks : (count : ℕ) → pens_of (blank_prints count) ≡ 0
pens_of-blanks zero = refl
pens_of-blanks (suc count) = pens_of-blanks count

-- ---- cells that have lost their cluster

module _ (rest : CellView → CellView) (blank : (cell : CellView) → is_half (rest cell) ≡ false) where
  mended-whole : (cells : List CellView) → begins_half cells ≡ false → mended rest cells ≡ cells
  mended-whole [] whole = refl
  mended-whole (cell ∷ cells) whole = cond-false (is_half cell) (rest cell ∷ mended rest cells) (cell ∷ cells) whole

  mended-begins : (cells : List CellView) → begins_half (mended rest cells) ≡ false
  mended-begins [] = refl
  mended-begins (cell ∷ cells) =
      ⊎_elim
      (λ half. rw half (blank cell))
      (λ whole. rw whole whole)
      (cases_Bool (is_half cell))

  mended-drop : (count : ℕ) (cells : List CellView) → mended rest (drop count (mended rest cells)) ≡ mended rest (drop count cells)
  mended-drop zero cells = mended-whole (mended rest cells) (mended-begins cells)
  mended-drop (suc count) [] = refl
  mended-drop (suc count) (cell ∷ cells) =
      ⊎_elim
      (λ half. rw half (mended-drop count cells))
      (λ whole. rw whole refl)
      (cases_Bool (is_half cell))

blanks-begin : (look : Pen) (count : ℕ) (more : List CellView) → 0 < count → begins_half (replicate count (in_look look (32 ∷ [])) ++ more) ≡ false
blanks-begin look zero more some = absurd (omega arith)
blanks-begin look (suc count) more some = refl

blanks-mended : (rest : CellView → CellView) → ((cell : CellView) → is_half (rest cell) ≡ false) → (look : Pen) (count : ℕ) (cells : List CellView) →
    mended rest (replicate count (in_look look (32 ∷ [])) ++ mended rest cells) ≡ replicate count (in_look look (32 ∷ [])) ++ mended rest cells
blanks-mended rest blank look zero cells = mended-whole rest blank (mended rest cells) (mended-begins rest blank cells)
blanks-mended rest blank look (suc count) cells = refl

-- what is printed where no cluster is covered in half
printed-whole : (rest : CellView → CellView) (cells front back : List CellView) → begins_half back ≡ false → printed rest cells front back ≡ front ++ cells ++ mended rest (drop (length cells) back)
printed-whole rest cells front back whole =
    ap (λ before. before ++ cells ++ mended rest (drop (length cells) back)) (cond-false (begins_half back) (reverse (mended_back rest (reverse front))) front whole)

-- ---- the cursor in a row

column-next : (columns index : ℕ) → index % columns + 1 < columns → (index + 1) % columns ≡ index % columns + 1
column-next columns index inside =
    let at : index + 1 ≡ index / columns * columns + (index % columns + 1) = omega arith in
    ap (λ p. p % columns) at ∙ mod-mul-add (index / columns) columns (index % columns + 1) inside

cursor-next : (columns index : ℕ) → index % columns + 1 < columns → cursor_after columns (index + 1) ≡ Some (index + 1)
cursor-next columns index inside =
    let column = column-next columns index inside in
    let not_first : ((index + 1) % columns == 0) ≡ false = rw column (grind (arith, nat_tests)) in
    cond-false ((index + 1) % columns == 0) None (Some (index + 1)) not_first

-- ---- blanks that are printed one after another

-- the terminal with blanks in some cells, and the cursor somewhere
abbrev with_blanks : Terminal → List CellView → List CellView → ℕ → Option ℕ → Terminal
with_blanks terminal front back count cursor = record terminal {
  cells = front ++ (replicate count (in_look terminal.pen (32 ∷ [])) ++ mended (rest_of terminal.rest_look terminal.pen) (drop count back));
  cursor = cursor;
}

one-blank : (terminal : Terminal) (index : ℕ) (front back : List CellView) → terminal.cells ≡ front ++ back → length front ≡ index → begins_half back ≡ false →
    terminal.cursor ≡ Some index → has_plain_modes terminal.modes ≡ true → index % terminal.columns + 1 ≤ terminal.columns →
    apply_control (Print (32 ∷ [])) terminal ≡ with_blanks terminal front back 1 (cursor_after terminal.columns (index + 1))
one-blank terminal index front back is long whole at modes fits =
    let blank = in_look terminal.pen (32 ∷ []) in
    let rest = rest_of terminal.rest_look terminal.pen in
    let some : 0 < cluster_columns (32 ∷ []) = omega (arith, cluster_columns-blank) in
    let before : take index terminal.cells ≡ front = ap (take index) is ∙ take_at front back index long in
    let after : drop index terminal.cells ≡ back = ap (drop index) is ∙ drop_at front back index long in
    let cells : printed rest (blank ∷ []) (take index terminal.cells) (drop index terminal.cells) ≡ front ++ (blank ∷ mended rest (drop 1 back)) =
    ap (λ b. printed rest (blank ∷ []) b (drop index terminal.cells)) before ∙ ap (printed rest (blank ∷ []) front) after
    ∙ printed-whole rest (blank ∷ []) front back whole ∙ append_assoc front (blank ∷ []) (mended rest (drop 1 back)) in
    print-fits terminal index (32 ∷ []) (blank ∷ []) at (blank-cells terminal.shown_as terminal.pen) modes some fits
    ∙ ap (λ (all : List CellView). record terminal { cells = all; cursor = cursor_after terminal.columns (index + 1) }) cells

blanks-run : (count : ℕ) (terminal : Terminal) (index : ℕ) (front back : List CellView) → terminal.cells ≡ front ++ back → length front ≡ index → begins_half back ≡ false →
    terminal.cursor ≡ Some index → has_plain_modes terminal.modes ≡ true → index % terminal.columns + count ≤ terminal.columns →
    (cursor : Option ℕ) × (run (blank_prints count) terminal ≡ with_blanks terminal front back count cursor)
blanks-run zero terminal index front back is long whole at modes fits =
    let rest = rest_of terminal.rest_look terminal.pen in (
      terminal.cursor,
      ap (λ (cells : List CellView). record terminal { cells = cells }) (is ∙ ap (λ cells. front ++ cells) (sym (mended-whole rest (λ cell. refl) back whole))),
    )
blanks-run (suc zero) terminal index front back is long whole at modes fits =
    (cursor_after terminal.columns (index + 1), one-blank terminal index front back is long whole at modes (omega arith))
blanks-run (suc (suc count)) terminal index front back is long whole at modes fits =
    let rest = rest_of terminal.rest_look terminal.pen in
    let blank = in_look terminal.pen (32 ∷ []) in
    let inside : index % terminal.columns + 1 < terminal.columns = omega arith in
    let after : Terminal = with_blanks terminal front back 1 (cursor_after terminal.columns (index + 1)) in
    let moved = cursor-next terminal.columns index inside in
    let column = column-next terminal.columns index inside in
    let left = mended rest (drop 1 back) in
    let grouped : front ++ (blank ∷ left) ≡ (front ++ blank ∷ []) ++ left = sym (append_assoc front (blank ∷ []) left) in
    let longer : length (front ++ blank ∷ []) ≡ index + 1 = omega (arith, length-append front (blank ∷ [])) in
    let more = blanks-run (suc count) after (index + 1) (front ++ blank ∷ []) left grouped longer (mended-begins rest (λ cell. refl) (drop 1 back)) moved modes (omega (arith, column)) in
    let blanks = replicate (suc count) blank in
    let two_more : 1 + suc count ≡ suc (suc count) = omega arith in
    let again : drop (suc count) (drop 1 back) ≡ drop (suc (suc count)) back = drop-drop (suc count) 1 back ∙ ap (λ n. drop n back) two_more in
    let dropped : mended rest (drop (suc count) left) ≡ mended rest (drop (suc (suc count)) back) =
    mended-drop rest (λ cell. refl) (suc count) (drop 1 back) ∙ ap (mended rest) again in
    let cells : (front ++ blank ∷ []) ++ (blanks ++ mended rest (drop (suc count) left)) ≡ front ++ (blank ∷ blanks ++ mended rest (drop (suc (suc count)) back)) =
    ap (λ tail. (front ++ blank ∷ []) ++ (blanks ++ tail)) dropped ∙ append_assoc front (blank ∷ []) (blanks ++ mended rest (drop (suc (suc count)) back)) in (
      more.0,
      ap (run (blank_prints (suc count))) (one-blank terminal index front back is long whole at modes (omega arith)) ∙ more.1
          ∙ ap (λ (all : List CellView). record terminal { cells = all; cursor = more.0 }) cells,
    )

-- ---- the cluster

pub disputed-last : (columns index : ℕ) (cell : CellView) → 0 < columns → can_begin columns index cell ≡ true → is_disputed cell.symbol ≡ true →
    PrintsLast columns index cell (parted_controls (index / columns) (index % columns) cell.symbol)
disputed-last columns index cell wide begins disputed =
    let width = cluster_columns cell.symbol in
    let some = columns-some columns index cell begins in
    let last = MoveTo (index / columns) (index % columns) ∷ Print cell.symbol ∷ [] in
    record {
      prints = rw (disputed, prints_of-append (blank_prints width) last, prints_of-blanks width) refl;
      brings = λ terminal modes family same within whole.
          let look = look_of cell in
          let blank = in_look look (32 ∷ []) in
          let rest = rest_of terminal.rest_look look in
          let front = take index terminal.cells in
          let back = drop index terminal.cells in
          let start : Terminal = record terminal { is_updating = true; cursor = Some index; pen = look } in
          let long : length front ≡ index = length-take-le index terminal.cells (omega arith) in
          let fits : index % terminal.columns + width ≤ terminal.columns = rw same (columns-fit columns index cell begins) in
          let blanked = blanks-run width start index front back (sym (take-append-drop index terminal.cells)) long whole refl modes fits in
          let left = mended rest (drop width back) in
          let one : Terminal = with_blanks start front back width blanked.0 in
          let two : Terminal = record one { cursor = Some index } in
          let size : index < length one.cells =
          omega (arith, long, some, length-append front (replicate width blank ++ left), length-append (replicate width blank) left, length-replicate width blank) in
          let cells = cluster_cells terminal.shown_as look cell.symbol in
          let few = cluster_cells-length terminal.shown_as look cell.symbol family some in
          let unit = settled_cells terminal.shown_as cell in
          let all = settled_cells-length terminal.shown_as cell family some in
          let after = replicate (width - length cells) blank in
          let before_is : take index one.cells ≡ front = take_at front (replicate width blank ++ left) index long in
          let after_is : drop index one.cells ≡ replicate width blank ++ left = drop_at front (replicate width blank ++ left) index long in
          let dropped : drop (length cells) (replicate width blank ++ left) ≡ after ++ left =
          drop-append-le (length cells) (replicate width blank) left (omega (arith, few, length-replicate width blank)) ∙ ap (λ blanks. blanks ++ left) (drop-replicate (length cells) width blank) in
          let grouped : front ++ cells ++ (after ++ left) ≡ front ++ (cells ++ after) ++ left = simp append_assoc in
          let shown : printed rest cells (take index one.cells) (drop index one.cells) ≡ printed rest unit front back =
          ap (λ b. printed rest cells b (drop index one.cells)) before_is ∙ ap (printed rest cells front) after_is
          ∙ printed-whole rest cells front (replicate width blank ++ left) (blanks-begin look width left some)
          ∙ ap (λ tail. front ++ cells ++ mended rest tail) dropped
          ∙ ap (λ tail. front ++ cells ++ tail) (blanks-mended rest (λ cell. refl) look (width - length cells) (drop width back))
          ∙ grouped
          ∙ ap (λ tail. front ++ (cells ++ after) ++ tail) (ap (λ n. mended rest (drop n back)) (sym all))
          ∙ sym (printed-whole rest unit front back whole) in
          run-append (blank_prints width) last start
          ∙ ap (run last) blanked.1
          ∙ ap (run (Print cell.symbol ∷ [])) (move-there one columns index wide same modes size)
          ∙ print-fits two index cell.symbol cells refl refl modes some (omega (arith, few, fits))
          ∙ ap (λ (shown_cells : List CellView). record start { cells = shown_cells; cursor = cursor_after terminal.columns (index + length cells) }) shown
          ∙ ap (λ (n : ℕ). record start { cells = printed rest unit front back; cursor = cursor_after n (index + length cells) }) same;
      moves = rw (disputed, moves_of-append (blank_prints width) last, moves_of-blanks width) refl;
      pens = rw (pens_of-append (blank_prints width) last, pens_of-blanks width) refl;
    }
