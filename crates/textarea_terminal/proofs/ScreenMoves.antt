-- The steps of painting a cell, one after another.
use Rattle.std.proofs.Common.{inl, inr, ◌≡◌, ℕ, ◌+◌, ◌-◌, ◌*◌, ◌/◌, ◌%◌, ◌<◌, ◌≤◌, true, false, not, Bool, ◌&&◌, eqb, eq-eqb, true≢false, length, take, drop, replicate, List, [], ◌∷◌, ◌++◌, Option}
use Rattle.std.proofs.Common.{Some, None, ap, subst, sym, ◌∙◌, refl, arith, ltb, leb, append_assoc}
use Rattle.std.specs.Option.{option_eq}
use mathlib.Core.Bool.{beq}
use Rattle.std.proofs.lemmas.Bool.{cond-true, and_parts, leb-true, lt-ltb, le-leb}
use Rattle.std.proofs.lemmas.Bool.Decides.{nat_tests}
use Rattle.std.proofs.lemmas.List.{append-nil}
use Rattle.textarea_screen.specs.Cell.{CellView}
use Rattle.textarea_terminal.specs.Control.{Control, bytes_of}
use Rattle.textarea_terminal.specs.Control.Control.{MoveTo, Print}
use Rattle.textarea_terminal.specs.Disputed.{is_disputed}
use Rattle.textarea_terminal.specs.Paint.{Wrote, IsNeeded, moves_of, pens_of, BeginsUpdate, MovesTo, TakesLook, PrintsLast, PrintsCell, with_cell}
use Rattle.textarea_terminal.specs.PaintCells.{can_begin, cluster_columns}
use Rattle.textarea_terminal.specs.Pen.{in_look, look_of}
use Rattle.textarea_terminal.specs.Screen.{Terminal, has_plain_modes, apply_control, run, unknown, printed, print_at, rest_of, cursor_after, cluster_cells, settled_cells}
use Rattle.textarea_terminal.specs.declared.output.brush.Brush.{Brush}
use Rattle.textarea_terminal.specs.declared.output.look.Pen.{Pen}
use Rattle.textarea_terminal.proofs.ControlLemmas.{run-append, bytes_of-append, prints_of-append, moves_of-append, pens_of-append}
use Rattle.textarea_terminal.proofs.PaintFrames.{columns-some}
use Rattle.textarea_terminal.proofs.SettledLemmas.{Shown, agreed-length}

pub move-there : (terminal : Terminal) (columns index : ℕ) → 0 < columns → terminal.columns ≡ columns → has_plain_modes terminal.modes ≡ true → index < length terminal.cells →
    apply_control (MoveTo (index / columns) (index % columns)) terminal ≡ record terminal { cursor = Some index }
move-there terminal columns index some same modes within =
    let there : index / columns * terminal.columns + index % columns ≡ index = rw same (omega arith) in
    let in_row : index % columns < terminal.columns = rw same (omega arith) in
    let on_screen : index / columns * terminal.columns + index % columns < length terminal.cells = rw there within in
    ap (λ (cursor : Option ℕ). record terminal { cursor = cursor })
    (cond-true (has_plain_modes terminal.modes && ltb (index % columns) terminal.columns && ltb (index / columns * terminal.columns + index % columns) (length terminal.cells))
    (Some (index / columns * terminal.columns + index % columns)) None (rw modes (grind (arith, nat_tests, in_row, on_screen)))
    ∙ ap Some there)

-- a cluster's cells are printed at the cursor, if they end in the row
pub print-fits : (terminal : Terminal) (index : ℕ) (text : List ℕ) (cells : List CellView) → terminal.cursor ≡ Some index → cluster_cells terminal.shown_as terminal.pen text ≡ cells →
    has_plain_modes terminal.modes ≡ true → 0 < cluster_columns text → index % terminal.columns + length cells ≤ terminal.columns →
    apply_control (Print text) terminal ≡ record terminal {
      cells = printed (rest_of terminal.rest_look terminal.pen) cells (take index terminal.cells) (drop index terminal.cells);
      cursor = cursor_after terminal.columns (index + length cells);
    }
print-fits terminal index text cells at are modes some fits =
    let done : Terminal = record terminal {
      cells = printed (rest_of terminal.rest_look terminal.pen) cells (take index terminal.cells) (drop index terminal.cells);
      cursor = cursor_after terminal.columns (index + length cells);
    } in
    let test : (has_plain_modes terminal.modes && ltb 0 (cluster_columns text) && leb (index % terminal.columns + length cells) terminal.columns) ≡ true =
    rw (modes, lt-ltb 0 (cluster_columns text) some, le-leb (index % terminal.columns + length cells) terminal.columns fits) refl in
    ap (λ unit. print_at unit (ltb 0 (cluster_columns text)) terminal.cursor terminal) are
    ∙ ap (λ at. print_at cells (ltb 0 (cluster_columns text)) at terminal) at
    ∙ cond-true (has_plain_modes terminal.modes && ltb 0 (cluster_columns text) && leb (index % terminal.columns + length cells) terminal.columns) done (unknown terminal) test

pub columns-fit : (columns index : ℕ) (cell : CellView) → can_begin columns index cell ≡ true → index % columns + cluster_columns cell.symbol ≤ columns
columns-fit columns index cell begins =
    let width = cluster_columns cell.symbol in
    let room = (and_parts (ltb 0 width && leb (index % columns + width) columns) (ltb cell.modifier.0 512) begins).0 in
    leb-true (index % columns + width) columns (and_parts (ltb 0 width) (leb (index % columns + width) columns) room).1

agreed-settled : (shown_as : Shown) (cell : CellView) → 0 < cluster_columns cell.symbol → is_disputed cell.symbol ≡ false →
    settled_cells shown_as cell ≡ cluster_cells shown_as (look_of cell) cell.symbol
agreed-settled shown_as cell some agreed =
    let cells = cluster_cells shown_as (look_of cell) cell.symbol in
    let none : cluster_columns cell.symbol - length cells ≡ 0 = omega (arith, agreed-length shown_as (look_of cell) cell.symbol some agreed) in
    ap (λ n. cells ++ replicate n (in_look (look_of cell) (32 ∷ []))) none ∙ append-nil cells

-- a cluster that isn't disputed is printed at the cursor
print-there : (terminal : Terminal) (columns index : ℕ) (cell : CellView) → terminal.columns ≡ columns → has_plain_modes terminal.modes ≡ true → can_begin columns index cell ≡ true →
    is_disputed cell.symbol ≡ false →
    apply_control (Print cell.symbol) (record terminal { is_updating = true; cursor = Some index; pen = look_of cell }) ≡ with_cell columns index cell terminal
print-there terminal columns index cell same modes begins agreed =
    let three : Terminal = record terminal { is_updating = true; cursor = Some index; pen = look_of cell } in
    let some = columns-some columns index cell begins in
    let cells = cluster_cells terminal.shown_as (look_of cell) cell.symbol in
    let long : length cells ≡ cluster_columns cell.symbol = agreed-length terminal.shown_as (look_of cell) cell.symbol some agreed in
    let whole : settled_cells terminal.shown_as cell ≡ cells = agreed-settled terminal.shown_as cell some agreed in
    let fits : index % terminal.columns + length cells ≤ terminal.columns = rw (same, long) (columns-fit columns index cell begins) in
    print-fits three index cell.symbol cells refl refl modes some fits
    ∙ ap (λ (unit : List CellView). record terminal {
      cells = printed (rest_of terminal.rest_look (look_of cell)) unit (take index terminal.cells) (drop index terminal.cells);
      cursor = cursor_after terminal.columns (index + length cells);
      pen = look_of cell;
      is_updating = true;
    }) (sym whole)
    ∙ ap (λ (n : ℕ). record terminal {
      cells = printed (rest_of terminal.rest_look (look_of cell)) (settled_cells terminal.shown_as cell) (take index terminal.cells) (drop index terminal.cells);
      cursor = cursor_after n (index + length cells);
      pen = look_of cell;
      is_updating = true;
    }) same

needed-once : (pen : Option Pen) (look : Pen) (one all : ℕ) → IsNeeded pen look one → all ≡ one → IsNeeded pen look all
needed-once pen look one all (inl known) same = inl (known.0, same ∙ known.1)
needed-once pen look one all (inr other) same = inr (other.0, same ∙ other.1)

pub agreed-last : (columns index : ℕ) (cell : CellView) → can_begin columns index cell ≡ true → is_disputed cell.symbol ≡ false → PrintsLast columns index cell (Print cell.symbol ∷ [])
agreed-last columns index cell begins agreed = record {
  prints = rw agreed refl;
  brings = λ terminal modes family same within whole. print-there terminal columns index cell same modes begins agreed;
  moves = rw agreed refl;
  pens = refl;
}

-- an update is begun, the cursor is moved, the pen is changed, and the cluster is printed
pub prints-cell : (brush : Brush) (columns index : ℕ) (cell : CellView) (begin move take last : List Control) → PrintsLast columns index cell last →
    BeginsUpdate brush.is_updating begin → MovesTo brush.at columns index move → TakesLook brush.pen (look_of cell) take →
    PrintsCell brush columns index cell (begin ++ (move ++ (take ++ last)))
prints-cell brush columns index cell begin move take last done begun moved consumed = (
  rw (
    prints_of-append begin (move ++ (take ++ last)),
    prints_of-append move (take ++ last),
    prints_of-append take last,
    begun.0,
    moved.0,
    consumed.0,
  ) done.prints,
  λ terminal knows same within whole.
      let one : Terminal = record terminal { is_updating = true } in
      let two : Terminal = record one { cursor = Some index } in
      run-append begin (move ++ (take ++ last)) terminal
      ∙ ap (run (move ++ (take ++ last))) (begun.1 terminal knows.updating)
      ∙ run-append move (take ++ last) one
      ∙ ap (run (take ++ last)) (moved.1 one knows.cursor same knows.modes within)
      ∙ run-append take last two
      ∙ ap (run last) (consumed.1 two knows.pen)
      ∙ done.brings terminal knows.modes knows.family same within whole,
  omega (arith, moves_of-append begin (move ++ (take ++ last)), moves_of-append move (take ++ last), moves_of-append take last, begun.2, moved.3, consumed.2, done.moves),
  λ here. omega (arith, moves_of-append begin (move ++ (take ++ last)), moves_of-append move (take ++ last), moves_of-append take last, begun.2, ap moves_of (moved.2 here), consumed.2, done.moves),
  needed-once brush.pen (look_of cell) (pens_of take) (pens_of (begin ++ (move ++ (take ++ last)))) consumed.3
      (omega (arith, pens_of-append begin (move ++ (take ++ last)), pens_of-append move (take ++ last), pens_of-append take last, begun.3, moved.4, done.pens)),
)

written-four : (a b c d e : List ℕ) (xs ys zs last : List Control) → b ≡ a ++ bytes_of xs → c ≡ b ++ bytes_of ys → d ≡ c ++ bytes_of zs →
    e ≡ d ++ bytes_of last → e ≡ a ++ bytes_of (xs ++ (ys ++ (zs ++ last)))
written-four a b c d e xs ys zs last first second third fourth =
    rw (fourth, third, second, first) (simp (bytes_of-append, append_assoc))

-- the same as bytes
pub Wrote-cell : (brush : Brush) (columns index : ℕ) (cell : CellView) (look : Pen) → look ≡ look_of cell → {a b c d e : List ℕ} → Wrote a b (BeginsUpdate brush.is_updating) →
    Wrote b c (MovesTo brush.at columns index) → Wrote c d (TakesLook brush.pen look) → Wrote d e (PrintsLast columns index cell) → Wrote a e (PrintsCell brush columns index cell)
Wrote-cell brush columns index cell look is_look {a} {b} {c} {d} {e} begun moved consumed done =
    let Takes : Pen → Type 0 = λ l. TakesLook brush.pen l consumed.controls in
    record {
      controls = begun.controls ++ (moved.controls ++ (consumed.controls ++ done.controls));
      bytes = written-four a b c d e begun.controls moved.controls consumed.controls done.controls begun.bytes moved.bytes consumed.bytes done.bytes;
      with_ranges = prints-cell brush columns index cell begun.controls moved.controls consumed.controls done.controls done.with_ranges begun.with_ranges moved.with_ranges (subst Takes is_look consumed.with_ranges);
    }

-- ---- tests of what is known

pub not-there : (at : Option ℕ) (index : ℕ) (differs : Bool) → differs ≡ not (option_eq eqb at (Some index)) → differs ≡ true → at ≡ Some index → ⊥
not-there at index differs test other there =
    let same : option_eq eqb at (Some index) ≡ true = rw there (eq-eqb index index refl) in
    true≢false (sym other ∙ test ∙ ap not same)

beq-same : (b : Bool) → beq b b ≡ true
beq-same true = refl
beq-same false = refl

pub not-known : (known : Option Bool) (wanted same : Bool) → same ≡ option_eq beq known (Some wanted) → same ≡ false → known ≡ Some wanted → ⊥
not-known known wanted same test other there =
    let is : option_eq beq known (Some wanted) ≡ true = rw there (beq-same wanted) in
    true≢false (sym is ∙ sym test ∙ other)
