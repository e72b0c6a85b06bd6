use Rattle.std.proofs.Common.{◌∙◌, ap, true}
use Rattle.unicode_segmentation.specs.Grapheme.{is_grapheme_break}
use Rattle.unicode_segmentation.specs.Segments.{breaks_at}
use Rattle.textarea_clusters.proofs.EdgeLemmas.{boundary_of_column, edge_is}
use Rattle.textarea_clusters.proofs.edges.is_cluster_edge_from.Goals as goal

pub is_break-requires : goal.is_break-requires
is_break-requires c =
    boundary_of_column c.args.line.now c.args.column c.byte_offset_from-offset.result c.utf8.line c.byte_offset_from-offset.ensures

pub returns-clause-edge : goal.returns-clause-edge
returns-clause-edge c =
    c.is_break.ensures ∙ ap (breaks_at (is_grapheme_break true) c.args.line.now) c.byte_offset_from-offset.ensures ∙ edge_is c.args.line.now c.utf8.line c.args.column
