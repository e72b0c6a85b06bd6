-- A row that is drawn cluster by cluster, and the grapheme clusters that fit it.
use Rattle.std.proofs.lemmas.Grind.{common_steps}
use Rattle.std.proofs.Common.{◌≡◌, ℕ, ◌+◌, ◌-◌, ◌<◌, ◌≤◌, min, List, [], ◌∷◌, ◌++◌, filter, refl, sym, ap, ap₂, subst, ◌∙◌, arith}
use Rattle.std.proofs.lemmas.Bool.Decides.{nat_tests}
use Rattle.std.proofs.lemmas.List.Sums.{sum_by-cons}
use Rattle.textarea_screen.specs.Buffer.{area_of, Changes, KeepsOutside}
use Rattle.textarea_screen.specs.Cell.{CellView}
use Rattle.textarea_screen.proofs.BufferLemmas.{contains_right}
use Rattle.textarea_screen.proofs.ChangeLemmas.{Changes-inside, Changes-none, Changes-then, KeepsOutside-from_changes, KeepsOutside-then, KeepsOutside-same}
use Rattle.textarea_screen.specs.declared.screen.buffer.Buffer.{Buffer}
use Rattle.textarea_paint.specs.Cells.{Placed, placed_at, place_from, is_in_cells, row_change, IsPenAt}
use Rattle.textarea_paint.specs.Clusters.{Cluster}
use Rattle.textarea_paint.specs.Columns.{columns_of}
use Rattle.textarea_paint.specs.Row.{front_within, is_no_wider, fitting, clusters_width}
use Rattle.textarea_paint.specs.declared.paint.cells.Pen.{Pen}
use Rattle.textarea_paint.specs.declared.paint.cells.RowCells.{RowCells}
use Rattle.textarea_paint.proofs.FrontLemmas.{front-fits, front-full}
use Rattle.textarea_paint.proofs.CellLemmas.{row_change-cons, row_change-nil, row_change-past, row_change-outside}

-- ---- a row that is partly drawn

-- the buffer was `old` and is `now`; drawing the clusters `ahead` at the pen completes the row
pub record IsDrawing (cells : RowCells) (left : ℕ) (row : List Placed) (old now : Buffer) (pen : Pen) (ahead : List Cluster) : Type 0 where
  pub column : ℕ
  pub at : IsPenAt cells left column pen
  pub rest : (new : Buffer) → Changes now new (row_change cells left (place_from column ahead)) → Changes old new (row_change cells left row)
  pub unchanged : KeepsOutside (is_in_cells cells) old now

pub drawing_start : (cells : RowCells) (left start : ℕ) (row : List Cluster) (buffer : Buffer) (pen : Pen) (ahead : List Cluster) → IsPenAt cells left start pen → ahead ≡ row →
    IsDrawing cells left (place_from start row) buffer buffer pen ahead
drawing_start cells left start row buffer pen ahead at all = record {
  column = start;
  at = at;
  rest = λ new drawn. rw (← all) drawn;
  unchanged = KeepsOutside-same (is_in_cells cells) refl;
}

-- a row is its first clusters and then the others
pub row_change-append : (cells : RowCells) (left start : ℕ) (run clusters : List Cluster) (x y : ℕ) (cell : CellView) →
    row_change cells left (place_from (start + clusters_width run) clusters) x y (row_change cells left (place_from start run) x y cell)
    ≡ row_change cells left (place_from start (run ++ clusters)) x y cell
row_change-append cells left start [] clusters x y cell =
    let same : start + clusters_width [] ≡ start = omega arith in
    ap₂ (λ (n : ℕ) (c : CellView). row_change cells left (place_from n clusters) x y c) same (row_change-nil cells left x y cell)
row_change-append cells left start (cluster ∷ run) clusters x y cell =
    let next = start + columns_of cluster.text in
    let first = row_change cells left (placed_at start cluster ∷ []) x y cell in
    let same : start + clusters_width (cluster ∷ run) ≡ next + clusters_width run = omega (arith, sum_by-cons (λ (c : Cluster). columns_of c.text) cluster run) in
    ap₂ (λ (n : ℕ) (c : CellView). row_change cells left (place_from n clusters) x y c) same (sym (row_change-cons cells left start cluster run x y cell))
    ∙ row_change-append cells left next run clusters x y first
    ∙ row_change-cons cells left start cluster (run ++ clusters) x y cell

-- clusters that follow each other are drawn
pub drawing_run : {cells : RowCells} {left : ℕ} {row : List Placed} {old now next : Buffer} {pen moved : Pen} {ahead after : List Cluster} (run : List Cluster) →
    (d : IsDrawing cells left row old now pen ahead) → ahead ≡ run ++ after → IsPenAt cells left (d.column + clusters_width run) moved →
    Changes now next (row_change cells left (place_from d.column run)) → IsDrawing cells left row old next moved after
drawing_run {cells} {left} {row} {old} {now} {next} {pen} {moved} {ahead} {after} run d fitting_clusters at drawn = record {
  column = d.column + clusters_width run;
  at = at;
  rest = λ new others.
      d.rest new (rw fitting_clusters (Changes-then (row_change cells left (place_from d.column (run ++ after))) drawn others
      (λ x y cell. row_change-append cells left d.column run after x y cell)));
  unchanged = KeepsOutside-then d.unchanged (KeepsOutside-from_changes (is_in_cells cells) drawn
      (λ x y cell outside. row_change-outside cells left (place_from d.column run) x y cell outside));
}

-- one cluster is drawn
pub drawing_next : {cells : RowCells} {left : ℕ} {row : List Placed} {old now next : Buffer} {pen moved : Pen} {ahead after : List Cluster} (cluster : Cluster) →
    (d : IsDrawing cells left row old now pen ahead) → ahead ≡ cluster ∷ after → IsPenAt cells left (d.column + columns_of cluster.text) moved →
    Changes now next (row_change cells left (placed_at d.column cluster ∷ [])) → IsDrawing cells left row old next moved after
drawing_next {cells} {left} {moved = moved} cluster d fitting_clusters at drawn =
    let width : d.column + columns_of cluster.text ≡ d.column + clusters_width (cluster ∷ []) = omega (arith, sum_by-cons (λ (c : Cluster). columns_of c.text) cluster []) in
    drawing_run (cluster ∷ []) d fitting_clusters (subst (λ n. IsPenAt cells left n moved) width at) drawn

-- a cluster is left out, and the clusters still to be drawn are the same
pub drawing_same : {cells : RowCells} {left : ℕ} {row : List Placed} {old now : Buffer} {pen : Pen} {ahead : List Cluster} (after : List Cluster) →
    IsDrawing cells left row old now pen ahead → ahead ≡ after → IsDrawing cells left row old now pen after
drawing_same {cells} {left} {row} {old} {now} {pen} {ahead} after d same = rw (← same) d

pub drawing_end : {cells : RowCells} {left : ℕ} {row : List Placed} {old now : Buffer} {pen : Pen} {ahead : List Cluster} → IsDrawing cells left row old now pen ahead → ahead ≡ [] →
    Changes old now (row_change cells left row)
drawing_end {cells} {left} {row} {old} {now} {pen} {ahead} d none =
    d.rest now (rw none (Changes-none now (row_change cells left []) (λ x y cell. row_change-nil cells left x y cell)))

-- the pen is at the end of the cells, or of those that the buffer has
pub drawing_past : {cells : RowCells} {left : ℕ} {row : List Placed} {old now : Buffer} {pen : Pen} {ahead : List Cluster} → IsDrawing cells left row old now pen ahead →
    min (cells.x + cells.width) ((area_of old).x + (area_of old).width) ≤ pen.x → Changes old now (row_change cells left row)
drawing_past {cells} {left} {row} {old} {now} {pen} {ahead} d past =
    d.rest now (Changes-inside (row_change cells left (place_from d.column ahead)) (Changes-none now (λ x y cell. cell) (λ x y cell. refl))
    (λ x y cell inside.
    let right : x < (area_of now).x + (area_of now).width = contains_right (area_of now) x y inside in
    let same : (area_of now).x + (area_of now).width ≡ (area_of old).x + (area_of old).width = ap (λ area. area.x + area.width) d.unchanged.area in
    sym (row_change-past cells left d.column ahead x y cell (λ after before. omega (arith, after, before, past, right, same, d.at.x)))))

-- ---- the clusters that fit

-- the clusters still to be drawn, if there is room for `room` columns
abbrev pub fitting_ahead : ℕ → ℕ → List Cluster → List Cluster
fitting_ahead width room clusters = front_within room (filter (is_no_wider width) clusters)

pub fitting_ahead-wide : (width room : ℕ) (cluster : Cluster) (clusters : List Cluster) → width < columns_of cluster.text →
    fitting_ahead width room (cluster ∷ clusters) ≡ fitting_ahead width room clusters
fitting_ahead-wide width room cluster clusters wide = grind (arith, nat_tests)

-- a cluster that is no wider than the area is not left out
narrow_stays : (width : ℕ) (cluster : Cluster) (clusters : List Cluster) → columns_of cluster.text ≤ width →
    filter (is_no_wider width) (cluster ∷ clusters) ≡ cluster ∷ filter (is_no_wider width) clusters
narrow_stays width cluster clusters narrow = grind (arith, nat_tests)

pub fitting_ahead-full : (width room : ℕ) (cluster : Cluster) (clusters : List Cluster) → columns_of cluster.text ≤ width → room < columns_of cluster.text →
    fitting_ahead width room (cluster ∷ clusters) ≡ []
fitting_ahead-full width room cluster clusters narrow full = grind (arith, common_steps, narrow_stays width cluster clusters narrow, front-full)

pub fitting_ahead-fits : (width room : ℕ) (cluster : Cluster) (clusters : List Cluster) → columns_of cluster.text ≤ width → columns_of cluster.text ≤ room →
    fitting_ahead width room (cluster ∷ clusters) ≡ cluster ∷ fitting_ahead width (room - columns_of cluster.text) clusters
fitting_ahead-fits width room cluster clusters narrow fits = grind (arith, common_steps, narrow_stays width cluster clusters narrow, front-fits)

-- ---- their columns

-- `room` of the `width` columns are left after the clusters already measured; these and the
-- clusters `ahead` take the columns of the row
pub record IsMeasuring (width : ℕ) (row : List Cluster) (room : ℕ) (ahead : List Cluster) : Type 0 where
  pub bound : room ≤ width
  pub sum : (width - room) + clusters_width (fitting_ahead width room ahead) ≡ clusters_width (fitting width row)

pub measuring_fits : {width room : ℕ} {row ahead : List Cluster} (cluster : Cluster) (after : List Cluster) → IsMeasuring width row room ahead → ahead ≡ cluster ∷ after →
    columns_of cluster.text ≤ width → columns_of cluster.text ≤ room → IsMeasuring width row (room - columns_of cluster.text) after
measuring_fits {width} {room} {row} {ahead} cluster after m fitting_clusters narrow fits =
    let columns = columns_of cluster.text in
    let more : clusters_width (fitting_ahead width room (cluster ∷ after)) ≡ columns + clusters_width (fitting_ahead width (room - columns) after) =
    ap clusters_width (fitting_ahead-fits width room cluster after narrow fits) ∙ sum_by-cons (λ c. columns_of c.text) cluster (fitting_ahead width (room - columns) after) in
    record {
      bound = omega (arith, m.bound);
      sum = omega (arith, m.bound, m.sum, fits, ap (λ clusters. clusters_width (fitting_ahead width room clusters)) fitting_clusters, more);
    }

pub measuring_full : {width room : ℕ} {row ahead : List Cluster} (cluster : Cluster) (after : List Cluster) → IsMeasuring width row room ahead → ahead ≡ cluster ∷ after →
    columns_of cluster.text ≤ width → room < columns_of cluster.text → width - room ≡ clusters_width (fitting width row)
measuring_full {width} {room} {row} {ahead} cluster after m fitting_clusters narrow full =
    omega (arith, m.sum, ap (λ clusters. clusters_width (fitting_ahead width room clusters)) fitting_clusters, ap clusters_width (fitting_ahead-full width room cluster after narrow full))

pub measuring_end : {width room : ℕ} {row ahead : List Cluster} → IsMeasuring width row room ahead → ahead ≡ [] → width - room ≡ clusters_width (fitting width row)
measuring_end {width} {room} {row} {ahead} m none = omega (arith, m.sum, ap (λ clusters. clusters_width (fitting_ahead width room clusters)) none)
