-- The grapheme clusters that an iterator over a line has left.
use Rattle.std.specs.Prelude.{◌≡◌, ℕ, ◌<◌, ◌≤◌, true, List, [], ◌∷◌, ◌++◌, length, map, All}
use Rattle.std.specs.List.{flat_map}
use Rattle.std.specs.Slice.Iter.{iter_rest}
use Rattle.unicode_segmentation.specs.Grapheme.{graphemes}
use Rattle.unicode_segmentation.specs.Iter.{graphemes_left}
use Rattle.textarea_screen.specs.Text.{span_view}
use Rattle.textarea_screen.specs.declared.screen.style.Style.{Style}
use Rattle.textarea_paint.specs.Clusters.{Cluster, in_style, letter_clusters, plain_clusters, span_clusters, text_clusters}
use Rattle.textarea_paint.specs.Columns.{columns_of}
use Rattle.textarea_paint.specs.Letters.{AreLetters}
use Rattle.textarea_paint.specs.Plain.{IsPrintable}
use Rattle.textarea_paint.specs.Units.{AreUnits}
use Rattle.textarea_paint.specs.declared.paint.clusters.ClusterRun.{ClusterRun}
use Rattle.textarea_paint.specs.declared.paint.clusters.LineClusters.{LineClusters}
use Rattle.textarea_paint.specs.declared.paint.clusters.RunKind.{RunKind}
use Rattle.textarea_paint.specs.declared.paint.clusters.RunKind.TheVariants.{One, Plain, Letters, Units}
use Rattle.textarea_paint.specs.declared.paint.clusters.SpanRest.{SpanRest}
use Rattle.textarea_paint.specs.declared.paint.clusters.SpanRest.TheVariants.{Clusters, Text}
use Rattle.textarea_paint.specs.declared.paint.clusters.StyledCluster.{StyledCluster}

abbrev pub styled_cluster : StyledCluster → Cluster
styled_cluster cluster = record { text = cluster.text.now; style = cluster.style }

-- the clusters of a text of this kind
abbrev pub kind_clusters : RunKind → Style → List ℕ → List Cluster
kind_clusters One style text = in_style style text ∷ []
kind_clusters Plain style text = plain_clusters style text
kind_clusters Letters style text = letter_clusters style text
kind_clusters (Units bytes) style text = text_clusters style text

-- the clusters of a run
abbrev pub run_clusters : ClusterRun → List Cluster
run_clusters run = kind_clusters run.kind run.style run.text.now

-- the text is of this kind, and each of its clusters takes this many columns
abbrev pub FitsKind : RunKind → ℕ → List ℕ → Type 0
FitsKind One columns text = columns ≡ columns_of text
FitsKind Plain columns text = All IsPrintable text
FitsKind Letters columns text = AreLetters columns text
FitsKind (Units bytes) columns text = AreUnits columns bytes text

-- what is known of a run: it has a cluster and at most `most`, its text is of its kind, and that is
-- the whole cluster if there is one
pub record IsClusterRun (most : ℕ) (run : ClusterRun) : Type 0 where
  pub fits : FitsKind run.kind run.columns run.text.now
  pub some : 0 < length (run_clusters run)
  pub bound : length (run_clusters run) ≤ most
  pub single : length (run_clusters run) ≤ 1 → run_clusters run ≡ in_style run.style run.text.now ∷ []

-- the clusters of a span's rest
abbrev pub rest_clusters : SpanRest → List (List ℕ)
rest_clusters (Text text) = graphemes true text.now
rest_clusters (Clusters texts) = graphemes_left texts

-- the clusters left of the current span, and of the following spans
unfoldable pub clusters_left : LineClusters → List Cluster
clusters_left s = map (in_style s.style) (rest_clusters s.rest) ++ flat_map (span_clusters s.base) (map span_view (iter_rest s.spans))
