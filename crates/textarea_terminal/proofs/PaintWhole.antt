-- The caret and the update around the cells of a frame.
use Rattle.std.proofs.Common.{◌≡◌, ℕ, ◌+◌, ◌%◌, ◌<◌, Bool, true, false, cond, ◌&&◌, ltb, leb, List, [], ◌∷◌, ◌++◌, length, take, drop, replicate, map, Option, Some, None, IfSome, is_some, refl, sym, ap, subst, ◌∙◌, arith}
use Rattle.std.specs.Option.{option_or}
use Rattle.std.proofs.lemmas.List.{append-nil, length-map}
use Rattle.textarea_screen.specs.declared.screen.cell.Cell.{Cell}
use Rattle.textarea_screen.specs.Cell.{CellView, fresh_cell, cell_view}
use Rattle.textarea_terminal.specs.Control.{Control}
use Rattle.textarea_terminal.specs.Control.Control.{Print, MoveTo, SetPen, ChangePen, EraseAll, SelectAscii, ResetOrigin, ResetColumnMargins, ResetRowMargins, ResetInsertion, SetWrapping, ShowCursor, HideCursor, BeginUpdate, EndUpdate}
use Rattle.textarea_terminal.specs.Paint.{Wrote, prints_of, HasRuns, HasLooks, AreChanges, Repaints, PaintedFrame, IsCaret, ShowsFrame, HasSize, Paints, MovesTo, Clears, SetsCursor, EndsUpdate, PutsCaret, EndsFrame, PaintsFrame}
use Rattle.textarea_terminal.specs.PaintCells.{are_whole, cluster_columns}
use Rattle.textarea_terminal.specs.Pen.{plain_look}
use Rattle.textarea_terminal.specs.Screen.{Terminal, CountsAlike, first_modes, has_plain_modes, apply_control, run, unknown, printed, print_at, rest_of, cursor_after, cluster_cells, settled_frame}
use Rattle.textarea_terminal.specs.declared.output.brush.Brush.{Brush}
use Rattle.textarea_terminal.proofs.ControlLemmas.{Wrote-then, run-append, prints_of-append, moves_of-append, pens_of-append}
use Rattle.textarea_terminal.proofs.SettledLemmas.{Shown, settled-length, settled-fresh, settled-exact}

pub puts-caret : (at : Option ℕ) (known : Option Bool) (columns index : ℕ) (xs ys : List Control) → MovesTo at columns index xs → SetsCursor known true ys →
    PutsCaret at known columns (Some index) (xs ++ ys)
puts-caret at known columns index xs ys moves sets = record {
  brings = λ terminal here is_printed same modes within.
      run-append xs ys terminal ∙ ap (run ys) (moves.1 terminal here same modes within) ∙ sets.1 (record terminal { cursor = Some index }) is_printed;
  prints = rw (prints_of-append xs ys, moves.0, sets.0) refl;
  moves = omega (arith, moves_of-append xs ys, moves.3, sets.3);
  pens = omega (arith, pens_of-append xs ys, moves.4, sets.4);
  still = λ is_printed here. rw (moves.2 here, sets.2 is_printed) refl;
}

still-known : (known : Option Bool) (before after : Bool) → after ≡ before → IfSome known (λ is_printed. before ≡ is_printed) → IfSome known (λ is_printed. after ≡ is_printed)
still-known None before after same is_printed = tt
still-known (Some b) before after same is_printed = same ∙ is_printed

within-cells : (caret : Option ℕ) (cells new : List CellView) → length cells ≡ length new → IfSome caret (λ index. index < length new) → IfSome caret (λ index. index < length cells)
within-cells None cells new same within = tt
within-cells (Some index) cells new same within = omega arith

still-there : (caret at before : Option ℕ) → at ≡ before → IfSome caret (λ index. before ≡ Some index) → IfSome caret (λ index. at ≡ Some index)
still-there None at before same here = tt
still-there (Some index) at before same here = same ∙ here

caret-known : (caret : Option ℕ) (terminal : Terminal) → IsCaret caret terminal → IfSome caret (λ index. terminal.cursor ≡ Some index)
caret-known None terminal is = tt
caret-known (Some index) terminal is = is.1

caret-visible : (caret : Option ℕ) (terminal : Terminal) → IsCaret caret terminal → terminal.has_visible_cursor ≡ is_some caret
caret-visible None terminal is = is
caret-visible (Some index) terminal is = is.0

caret-same : (old new : Option ℕ) → old ≡ new → IfSome new (λ index. old ≡ Some index)
caret-same old None same = tt
caret-same old (Some index) same = same

caret-there : (caret : Option ℕ) (terminal : Terminal) → IsCaret caret (record terminal { cursor = option_or caret terminal.cursor; has_visible_cursor = is_some caret; is_updating = false })
caret-there None terminal = refl
caret-there (Some index) terminal = (refl, refl)

pub finishes : (start brush : Brush) (known : Option Bool) (columns : ℕ) (old new : List CellView) (caret : Option ℕ) (xs ys zs : List Control) →
    IfSome caret (λ index. index < length new) → Repaints columns old new start brush xs → PutsCaret brush.at known columns caret ys → EndsUpdate brush.is_updating zs →
    PaintsFrame start known columns old (record { cells = new; caret = caret }) (xs ++ (ys ++ zs))
finishes start brush known columns old new caret xs ys zs within repaints puts ends = record {
  brings = λ terminal knows is_printed same cells.
      let one = run xs terminal in
      let shows = repaints.brings terminal terminal.has_visible_cursor (record { knows = knows; columns = same; cells = cells; caret = refl }) in
      let two : Terminal = record one { cursor = option_or caret one.cursor; has_visible_cursor = is_some caret } in
      let three : Terminal = record two { is_updating = false } in
      let put : run ys one ≡ two =
      puts.brings one shows.knows.cursor (still-known known terminal.has_visible_cursor one.has_visible_cursor shows.caret is_printed) shows.columns shows.knows.modes
      (within-cells caret one.cells new (ap length shows.cells ∙ settled-length one.shown_as [] new) within) in
      let ran : run (xs ++ (ys ++ zs)) terminal ≡ three =
      run-append xs (ys ++ zs) terminal ∙ run-append ys zs one ∙ ap (run zs) put ∙ ends.1 two shows.knows.updating in
      let F : PaintedFrame = record { cells = new; caret = caret } in
      subst (ShowsFrame columns F) (sym ran) (record {
        family = shows.knows.family;
        modes = shows.knows.modes;
        columns = shows.columns;
        cells = shows.cells;
        caret = caret-there caret one;
        updating = refl;
      });
  prints =
      let texts : prints_of (xs ++ (ys ++ zs)) ≡ prints_of xs = rw (prints_of-append xs (ys ++ zs), prints_of-append ys zs, puts.prints, ends.0) (append-nil (prints_of xs)) in
      subst (AreChanges old new) (sym texts) repaints.prints;
  moves = (repaints.moves.0, (repaints.moves.1.0, omega (arith, repaints.moves.1.1, moves_of-append xs (ys ++ zs), moves_of-append ys zs, puts.moves, ends.3)));
  pens = (repaints.pens.0, (repaints.pens.1.0, omega (arith, repaints.pens.1.1, pens_of-append xs (ys ++ zs), pens_of-append ys zs, puts.pens, ends.4)));
  still = λ same is_printed here not_begun.
      let quiet = repaints.still same in
      let here' : IfSome caret (λ index. brush.at ≡ Some index) = still-there caret brush.at start.at (ap (λ (b : Brush). b.at) quiet.1) here in
      rw (quiet.0, puts.still is_printed here', ends.2 (ap (λ (b : Brush). b.is_updating) quiet.1 ∙ not_begun)) refl;
}

first-plain : has_plain_modes first_modes ≡ true
unfolding has_plain_modes
first-plain = refl

print-alike : (cells : List CellView) (is_cluster : Bool) (at : Option ℕ) (terminal : Terminal) → (print_at cells is_cluster at terminal).shown_as ≡ terminal.shown_as
print-alike cells is_cluster None terminal = refl
print-alike cells is_cluster (Some index) terminal =
    elim (has_plain_modes terminal.modes && is_cluster && leb (index % terminal.columns + length cells) terminal.columns) as (λ b. (cond b (record terminal {
      cells = printed (rest_of terminal.rest_look terminal.pen) cells (take index terminal.cells) (drop index terminal.cells);
      cursor = cursor_after terminal.columns (index + length cells);
    }) (unknown terminal)).shown_as ≡ terminal.shown_as) [ true ↦ refl | false ↦ refl ]

alike-one : (x : Control) (terminal : Terminal) → (apply_control x terminal).shown_as ≡ terminal.shown_as
alike-one (Print text) terminal = print-alike (cluster_cells terminal.shown_as terminal.pen text) (ltb 0 (cluster_columns text)) terminal.cursor terminal
alike-one (MoveTo row column) terminal = refl
alike-one (SetPen renditions) terminal = refl
alike-one (ChangePen rendition) terminal = refl
alike-one EraseAll terminal = refl
alike-one SelectAscii terminal = refl
alike-one ResetOrigin terminal = refl
alike-one ResetColumnMargins terminal = refl
alike-one ResetRowMargins terminal = refl
alike-one ResetInsertion terminal = refl
alike-one SetWrapping terminal = refl
alike-one ShowCursor terminal = refl
alike-one HideCursor terminal = refl
alike-one BeginUpdate terminal = refl
alike-one EndUpdate terminal = refl

-- no control changes how the terminal counts
alike-after : (xs : List Control) (terminal : Terminal) → (run xs terminal).shown_as ≡ terminal.shown_as
alike-after [] terminal = refl
alike-after (x ∷ xs) terminal = alike-after xs (apply_control x terminal) ∙ alike-one x terminal

-- a terminal that counts as we do shows exactly the frame's cells
exactly : (columns : ℕ) (new : PaintedFrame) (xs : List Control) (terminal : Terminal) → CountsAlike terminal.shown_as → are_whole columns 0 0 new.cells ≡ true →
    (run xs terminal).cells ≡ settled_frame (run xs terminal).shown_as [] new.cells → (run xs terminal).cells ≡ new.cells
exactly columns new xs terminal alike whole cells =
    cells ∙ ap (λ (shown_as : Shown). settled_frame shown_as [] new.cells) (alike-after xs terminal) ∙ settled-exact terminal.shown_as alike columns 0 0 new.cells whole

-- from a terminal that shows the frame painted last
pub paints-known : (columns size : ℕ) (old new : PaintedFrame) (xs : List Control) → are_whole columns 0 0 new.cells ≡ true →
    PaintsFrame (record { at = old.caret; pen = None; is_updating = false }) (Some (is_some old.caret)) columns old.cells new xs →
    Paints columns size (Some old) new xs
paints-known columns size old new xs whole finish =
    let brings : (terminal : Terminal) → ShowsFrame columns old terminal → ShowsFrame columns new (run xs terminal) = λ terminal visible.
    finish.brings terminal (record {
      cursor = caret-known old.caret terminal visible.caret;
      pen = tt;
      updating = visible.updating;
      modes = visible.modes;
      family = visible.family;
    }) (caret-visible old.caret terminal visible.caret) visible.columns visible.cells in
    record {
      brings = brings;
      exact = λ terminal alike visible. exactly columns new xs terminal alike whole (brings terminal visible).cells;
      prints = finish.prints;
      moves = finish.moves;
      pens = (finish.pens.0, (finish.pens.1.0, omega (arith, finish.pens.1.1)));
      still = λ same.
          let frames : old ≡ new = cc same in
          finish.still (ap (λ (f : PaintedFrame). f.cells) frames) (ap (λ (f : PaintedFrame). Some (is_some f.caret)) frames) (caret-same old.caret new.caret (ap (λ (f : PaintedFrame). f.caret) frames)) refl;
    }

-- from a terminal that was erased
pub paints-unknown : (columns size : ℕ) (old : List CellView) (new : PaintedFrame) (xs ys : List Control) → old ≡ replicate size fresh_cell → are_whole columns 0 0 new.cells ≡ true → Clears xs →
    PaintsFrame (record { at = None; pen = Some plain_look; is_updating = true }) None columns old new ys → Paints columns size None new (xs ++ ys)
paints-unknown columns size old new xs ys erased whole clears finish =
    let brings : (terminal : Terminal) → HasSize columns size terminal → ShowsFrame columns new (run (xs ++ ys) terminal) = λ terminal visible.
    let one : Terminal = record terminal { cells = replicate (length terminal.cells) fresh_cell; cursor = None; pen = plain_look; is_updating = true; modes = first_modes } in
    let ran : run (xs ++ ys) terminal ≡ run ys one = run-append xs ys terminal ∙ ap (run ys) (clears.1 terminal) in
    let cells : one.cells ≡ settled_frame one.shown_as [] old =
    ap (λ n. replicate n fresh_cell) visible.has_size ∙ sym (settled-fresh terminal.shown_as size) ∙ ap (settled_frame terminal.shown_as []) (sym erased) in
    subst (ShowsFrame columns new) (sym ran)
    (finish.brings one (record { cursor = tt; pen = refl; updating = refl; modes = first-plain; family = visible.family }) tt visible.has_columns cells) in
    record {
      brings = brings;
      exact = λ terminal alike visible. exactly columns new (xs ++ ys) terminal alike whole (brings terminal visible).cells;
      prints =
          let texts : prints_of (xs ++ ys) ≡ prints_of ys = rw (prints_of-append xs ys, clears.0) refl in
          subst (λ cells. AreChanges cells new.cells (prints_of (xs ++ ys))) erased (subst (AreChanges old new.cells) (sym texts) finish.prints);
      moves = (
        finish.moves.0,
        (subst (λ cells. HasRuns columns 0 false cells new.cells finish.moves.0) erased finish.moves.1.0, omega (arith, finish.moves.1.1, moves_of-append xs ys, clears.2)),
      );
      pens = (
        finish.pens.0,
        (subst (λ cells. HasLooks (Some plain_look) cells new.cells finish.pens.0) erased finish.pens.1.0, omega (arith, finish.pens.1.1, pens_of-append xs ys, clears.3)),
      );
      still = λ same. cc same;
    }

-- ---- as bytes

pub Wrote-end : (brush : Brush) (known : Option Bool) (columns : ℕ) (caret : Option ℕ) {a b c : List ℕ} → Wrote a b (PutsCaret brush.at known columns caret) →
    Wrote b c (EndsUpdate brush.is_updating) → Wrote a c (EndsFrame brush known columns caret)
Wrote-end brush known columns caret first second =
    Wrote-then (EndsFrame brush known columns caret) first second (λ xs ys puts ends. record { first = xs; last = ys; whole = refl; puts = puts; ends = ends })

pub Wrote-frame : (start brush : Brush) (known : Option Bool) (columns : ℕ) (old new : List CellView) (caret : Option ℕ) {a b c : List ℕ} →
    IfSome caret (λ index. index < length new) → Wrote a b (Repaints columns old new start brush) → Wrote b c (EndsFrame brush known columns caret) →
    Wrote a c (PaintsFrame start known columns old (record { cells = new; caret = caret }))
Wrote-frame start brush known columns old new caret within first second =
    let R : List Control → Type 0 = PaintsFrame start known columns old (record { cells = new; caret = caret }) in
    Wrote-then R first second
    (λ xs rest repaints end.
    subst R (ap (λ more. xs ++ more) (sym end.whole)) (finishes start brush known columns old new caret xs end.first end.last within repaints end.puts end.ends))

pub within-visible : (caret : Option ℕ) (items : List Cell) → IfSome caret (λ index. index < length items) → IfSome caret (λ index. index < length (map cell_view items))
within-visible None items within = tt
within-visible (Some index) items within = omega (arith, length-map items cell_view)
