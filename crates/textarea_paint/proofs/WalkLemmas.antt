-- Clusters that are drawn one after the other.
use Rattle.std.proofs.Common.{◌≡◌, ℕ, zero, suc, ◌+◌, ◌<◌, ◌≤◌, ◌==◌, true, false, List, [], ◌∷◌, ◌++◌, length, map, OnErr, Result, Ok, Err, refl, sym, ap, subst, ◌∙◌, arith}
use Rattle.std.proofs.lemmas.List.{append-nil, append_assoc}
use Rattle.std.proofs.lemmas.List.Elements.{All-head}
use Rattle.std.proofs.lemmas.List.Sums.{sum_by-cons}
use Rattle.std.specs.List.{AllByRecursion}
use Rattle.std.specs.Prelude.{encode_utf8}
use Rattle.textarea_screen.specs.Buffer.{Changes, KeepsOutside}
use Rattle.textarea_screen.specs.declared.screen.buffer.Buffer.{Buffer}
use Rattle.textarea_screen.specs.declared.screen.cell.TheConstants.{INLINE_BYTES}
use Rattle.textarea_screen.specs.declared.screen.style.Style.{Style}
use Rattle.textarea_screen.proofs.ChangeLemmas.{Changes-none, Changes-then, KeepsOutside-from_changes}
use Rattle.textarea_paint.specs.Cells.{IsAnyPen, IsColumnWithin, IsPenAt, is_in_cells, place_from, placed_at, row_change}
use Rattle.textarea_paint.specs.Clusters.{AreInline, Cluster, in_style, letter_clusters}
use Rattle.textarea_paint.specs.Columns.{columns_of}
use Rattle.textarea_paint.specs.Walk.{IsPartlyDrawn}
use Rattle.textarea_paint.specs.Letters.{AreLetters, IsFirstLetter, IsLetter}
use Rattle.textarea_paint.specs.Row.{clusters_width}
use Rattle.textarea_paint.specs.declared.paint.cells.Pen.{Pen}
use Rattle.textarea_paint.specs.declared.paint.cells.RowCells.{RowCells}
use Rattle.textarea_paint.proofs.CellLemmas.{row_change-nil, row_change-outside}
use Rattle.textarea_paint.proofs.ClusterLemmas.{AreInline-after}
use Rattle.textarea_paint.proofs.PartLemmas.{clusters_width-append}
use Rattle.textarea_paint.proofs.RowLemmas.{row_change-append}

pub walk-start : (cells : RowCells) (start : Pen) (all : List Cluster) (buffer : Buffer) → IsColumnWithin cells start.x → IsPartlyDrawn cells start start all all buffer buffer
walk-start cells start all buffer within = record {
  front = [];
  parts = refl;
  at = λ left column at. let same : column ≡ column + clusters_width [] = omega arith in subst (λ n. IsPenAt cells left n start) same at;
  drawn = λ left column at. Changes-none buffer (row_change cells left []) (λ x y cell. row_change-nil cells left x y cell);
  within = within;
}

-- one cluster more
pub walk-next : {cells : RowCells} {start pen moved : Pen} {all rest after : List Cluster} {old now next : Buffer} (cluster : Cluster) →
    IsPartlyDrawn cells start pen all rest old now → rest ≡ cluster ∷ after →
    ((left column : ℕ) → IsPenAt cells left column pen → IsPenAt cells left (column + columns_of cluster.text) moved) →
    ((left column : ℕ) → IsPenAt cells left column pen → Changes now next (row_change cells left (placed_at column cluster ∷ []))) →
    IsColumnWithin cells moved.x → IsPartlyDrawn cells start moved all after old next
walk-next {cells} {start} {pen} {moved} {all} {rest} {after} {old} {now} {next} cluster walk first moves draws within =
    let width : clusters_width (walk.front ++ cluster ∷ []) ≡ clusters_width walk.front + columns_of cluster.text =
    omega (arith, clusters_width-append walk.front (cluster ∷ []), sum_by-cons (λ (c : Cluster). columns_of c.text) cluster []) in
    record {
      front = walk.front ++ cluster ∷ [];
      parts = walk.parts ∙ ap (λ (cs : List Cluster). walk.front ++ cs) first ∙ sym (append_assoc walk.front (cluster ∷ []) after);
      at = λ left column at.
          let same : (column + clusters_width walk.front) + columns_of cluster.text ≡ column + clusters_width (walk.front ++ cluster ∷ []) = omega (arith, width) in
          subst (λ n. IsPenAt cells left n moved) same (moves left (column + clusters_width walk.front) (walk.at left column at));
      drawn = λ left column at.
          Changes-then (row_change cells left (place_from column (walk.front ++ cluster ∷ []))) (walk.drawn left column at)
          (draws left (column + clusters_width walk.front) (walk.at left column at))
          (λ x y cell. row_change-append cells left column walk.front (cluster ∷ []) x y cell);
      within = within;
    }

-- a walk, and then another one
pub walk-then : {cells : RowCells} {start pen moved : Pen} {all rest after : List Cluster} {old now next : Buffer} →
    IsPartlyDrawn cells start pen all rest old now → IsPartlyDrawn cells pen moved rest after now next → IsPartlyDrawn cells start moved all after old next
walk-then {cells} {start} {pen} {moved} {all} {rest} {after} {old} {now} {next} first second =
    let front = first.front ++ second.front in
    let width : clusters_width front ≡ clusters_width first.front + clusters_width second.front = clusters_width-append first.front second.front in
    record {
      front = front;
      parts = first.parts ∙ ap (λ (cs : List Cluster). first.front ++ cs) second.parts ∙ sym (append_assoc first.front second.front after);
      at = λ left column at.
          let same : (column + clusters_width first.front) + clusters_width second.front ≡ column + clusters_width front = omega (arith, width) in
          subst (λ n. IsPenAt cells left n moved) same (second.at left (column + clusters_width first.front) (first.at left column at));
      drawn = λ left column at.
          Changes-then (row_change cells left (place_from column front)) (first.drawn left column at)
          (second.drawn left (column + clusters_width first.front) (first.at left column at))
          (λ x y cell. row_change-append cells left column first.front second.front x y cell);
      within = second.within;
    }

-- the pen is at some column of a row also after a walk
pub walk-any : {cells : RowCells} {start pen : Pen} {all rest : List Cluster} {old now : Buffer} → IsPartlyDrawn cells start pen all rest old now → IsAnyPen cells start → IsAnyPen cells pen
walk-any walk any = (any.0, any.1 + clusters_width walk.front, walk.at any.0 any.1 any.2)

-- all clusters are drawn
pub walk-all : {cells : RowCells} {start pen : Pen} {all rest : List Cluster} {old now : Buffer} → (walk : IsPartlyDrawn cells start pen all rest old now) → rest ≡ [] → walk.front ≡ all
walk-all walk none = sym (walk.parts ∙ ap (λ (cs : List Cluster). walk.front ++ cs) none ∙ append-nil walk.front)

-- those that are left are short too
pub walk-short : {cells : RowCells} {start pen : Pen} {all rest : List Cluster} {old now : Buffer} → IsPartlyDrawn cells start pen all rest old now → AreInline all → AreInline rest
walk-short {rest = rest} walk short = AreInline-after walk.front rest walk.parts short

-- a text that isn't empty has a byte
pub some_left : (n : ℕ) → false ≡ (n == 0) → 0 < n
some_left zero e = absurd (let no : false ≡ true = e in cc)
some_left (suc n) e = omega arith

pub on_err : {T E P : Type 0} (result : Result T E) → P → OnErr result P
on_err (Ok value) holds = tt
on_err (Err error) holds = holds

-- cells outside of the row are unchanged
pub walk-outside : {cells : RowCells} {start pen : Pen} {all rest : List Cluster} {old now : Buffer} → IsPartlyDrawn cells start pen all rest old now → IsAnyPen cells start → KeepsOutside (is_in_cells cells) old now
walk-outside {cells} walk any =
    KeepsOutside-from_changes (is_in_cells cells) (walk.drawn any.0 any.1 any.2)
    (λ x y cell outside. row_change-outside cells any.0 (place_from any.1 walk.front) x y cell outside)

-- the first of the clusters is short
pub head-short : {all after : List Cluster} (cluster : Cluster) → all ≡ cluster ∷ after → AreInline all → length cluster.text ≤ INLINE_BYTES
head-short {all} {after} cluster first short = All-head (λ (c : Cluster). length c.text ≤ INLINE_BYTES) cluster after (subst AreInline first short)

-- ---- letters

pub next_clusters : (style : Style) {rest letter after : List ℕ} → IsFirstLetter rest letter after → letter_clusters style rest ≡ in_style style letter ∷ letter_clusters style after
next_clusters style {rest} {letter} {after} f =
    ap (λ cs. map (in_style style) (map encode_utf8 cs)) f.chars_are ∙ ap (λ (t : List ℕ). in_style style t ∷ letter_clusters style after) (sym f.letter_is)

-- the first of the letters takes their columns
pub first-columns : {columns : ℕ} {rest letter after : List ℕ} → AreLetters columns rest → IsFirstLetter rest letter after → columns ≡ columns_of letter
first-columns {columns} {rest} {letter} {after} letters f =
    sym (f.columns_are columns (subst (AllByRecursion (IsLetter columns)) f.chars_are letters).0)

-- the others are letters too
pub later-letters : (columns : ℕ) {rest letter after : List ℕ} → AreLetters columns rest → IsFirstLetter rest letter after → AreLetters columns after
later-letters columns letters f = (subst (AllByRecursion (IsLetter columns)) f.chars_are letters).1
