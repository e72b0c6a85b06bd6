-- The bytes of a disputed cluster that is printed apart.
use Rattle.std.proofs.Common.{◌≡◌, ℕ, zero, suc, ◌+◌, ◌/◌, ◌%◌, ◌<◌, true, false, None, List, [], ◌∷◌, ◌++◌, replicate, refl, sym, ap, ◌∙◌, append_assoc}
use Rattle.std.proofs.lemmas.Bool.{cond-true, cond-false}
use Rattle.std.proofs.lemmas.List.{append-nil, replicate_more}
use Rattle.textarea_terminal.specs.Control.{control_bytes, bytes_of}
use Rattle.textarea_terminal.specs.Control.Control.{MoveTo, Print}
use Rattle.textarea_screen.specs.Cell.{CellView}
use Rattle.textarea_terminal.specs.Disputed.{is_disputed}
use Rattle.textarea_terminal.specs.Paint.{Wrote, PrintsLast, at_after}
use Rattle.textarea_terminal.specs.PaintCells.{can_begin, cluster_columns}
use Rattle.textarea_terminal.specs.PaintSpot.{IsSpot}
use Rattle.textarea_terminal.specs.Screen.{cursor_after}
use Rattle.textarea_terminal.specs.declared.output.spot.Spot.{Spot}
use Rattle.textarea_terminal.specs.Parted.{blank_prints, parted_controls}
use Rattle.textarea_terminal.proofs.ControlLemmas.{bytes_of-append, Wrote-one}
use Rattle.textarea_terminal.proofs.PaintSpots.{row-of, column-of}
use Rattle.textarea_terminal.proofs.ScreenMoves.{agreed-last}
use Rattle.textarea_terminal.proofs.ScreenParted.{disputed-last}

blanks-bytes : (count : ℕ) → bytes_of (blank_prints count) ≡ replicate count 32
blanks-bytes zero = refl
blanks-bytes (suc count) = ap (λ bytes. 32 ∷ bytes) (blanks-bytes count)

pub blanks-more : (before items new : List ℕ) (count : ℕ) → items ≡ before ++ bytes_of (blank_prints count) → new ≡ items ++ 32 ∷ [] → new ≡ before ++ bytes_of (blank_prints (count + 1))
blanks-more before items new count so_far pushed =
    pushed ∙ ap (λ bytes. bytes ++ 32 ∷ []) (so_far ∙ ap (λ bytes. before ++ bytes) (blanks-bytes count))
    ∙ append_assoc before (replicate count 32) (32 ∷ [])
    ∙ ap (λ bytes. before ++ bytes) (replicate_more count 32 ∙ sym (blanks-bytes (count + 1)))

pub parted-bytes : (row column : ℕ) (text before blanked moved done : List ℕ) → blanked ≡ before ++ bytes_of (blank_prints (cluster_columns text)) →
    moved ≡ blanked ++ control_bytes (MoveTo row column) → done ≡ moved ++ text → done ≡ before ++ bytes_of (parted_controls row column text)
parted-bytes row column text before blanked moved done a b c =
    let last = MoveTo row column ∷ Print text ∷ [] in
    c ∙ ap (λ bytes. bytes ++ text) (b ∙ ap (λ bytes. bytes ++ control_bytes (MoveTo row column)) a)
    ∙ ap (λ bytes. bytes ++ text) (append_assoc before (bytes_of (blank_prints (cluster_columns text))) (control_bytes (MoveTo row column)))
    ∙ append_assoc before (bytes_of (blank_prints (cluster_columns text)) ++ control_bytes (MoveTo row column)) text
    ∙ ap (λ bytes. before ++ bytes)
    (append_assoc (bytes_of (blank_prints (cluster_columns text))) (control_bytes (MoveTo row column)) text
    ∙ ap (λ bytes. bytes_of (blank_prints (cluster_columns text)) ++ (control_bytes (MoveTo row column) ++ bytes)) (sym (append-nil text))
    ∙ sym (bytes_of-append (blank_prints (cluster_columns text)) last))

-- where the cursor is known to be
pub at-disputed : (columns index : ℕ) (cell : CellView) → is_disputed cell.symbol ≡ true → at_after columns index cell ≡ None
at-disputed columns index cell disputed = cond-true (is_disputed cell.symbol) None (cursor_after columns (index + cluster_columns cell.symbol)) disputed

pub at-agreed : (columns index : ℕ) (cell : CellView) → is_disputed cell.symbol ≡ false → cursor_after columns (index + cluster_columns cell.symbol) ≡ at_after columns index cell
at-agreed columns index cell agreed = sym (cond-false (is_disputed cell.symbol) None (cursor_after columns (index + cluster_columns cell.symbol)) agreed)

-- what was written of a cluster
pub Wrote-disputed : (columns : ℕ) (spot : Spot) (cell : CellView) (symbol : List ℕ) {a b : List ℕ} → 0 < columns → IsSpot columns spot → can_begin columns spot.index cell ≡ true →
    is_disputed cell.symbol ≡ true → symbol ≡ cell.symbol → b ≡ a ++ bytes_of (parted_controls spot.row spot.column symbol) → Wrote a b (PrintsLast columns spot.index cell)
Wrote-disputed columns spot cell symbol {a} {b} some is begins disputed is_symbol wrote = record {
  controls = parted_controls (spot.index / columns) (spot.index % columns) cell.symbol;
  bytes =
      wrote
      ∙ ap (λ row. a ++ bytes_of (parted_controls row spot.column symbol)) (sym (row-of columns spot some is))
      ∙ ap (λ column. a ++ bytes_of (parted_controls (spot.index / columns) column symbol)) (sym (column-of columns spot some is))
      ∙ ap (λ text. a ++ bytes_of (parted_controls (spot.index / columns) (spot.index % columns) text)) is_symbol;
  with_ranges = disputed-last columns spot.index cell some begins disputed;
}

pub Wrote-agreed : (columns index : ℕ) (cell : CellView) (symbol : List ℕ) {a b : List ℕ} → can_begin columns index cell ≡ true → is_disputed cell.symbol ≡ false → symbol ≡ cell.symbol →
    b ≡ a ++ symbol → Wrote a b (PrintsLast columns index cell)
Wrote-agreed columns index cell symbol {a} {b} begins agreed is_symbol wrote =
    Wrote-one (Print cell.symbol) (wrote ∙ ap (λ text. a ++ text) is_symbol) (agreed-last columns index cell begins agreed)
