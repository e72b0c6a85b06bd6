use Rattle.std.proofs.Common.{◌∙◌, ap, true}
use Rattle.unicode_segmentation.specs.Grapheme.{is_grapheme_break}
use Rattle.unicode_segmentation.specs.Segments.{breaks_at}
use Rattle.textarea_clusters.proofs.EdgeLemmas.{boundary_of_column, edge_is}
use Rattle.textarea_clusters.proofs.edges.is_cluster_edge.Goals as goal

pub is_break-requires : goal.is_break-requires
is_break-requires c =
    boundary_of_column c.args.line.now c.args.column c.byte_offset.result c.utf8.line c.byte_offset.ensures

pub returns : goal.returns
returns c =
    c.is_break.ensures ∙ ap (breaks_at (is_grapheme_break true) c.args.line.now) c.byte_offset.ensures ∙ edge_is c.args.line.now c.utf8.line c.args.column
