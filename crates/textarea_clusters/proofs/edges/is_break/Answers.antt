use Rattle.std.proofs.Common.{refl, arith, rules}
use Rattle.unicode_segmentation.proofs.CursorLemmas.{IsChunkOf-whole}
use Rattle.textarea_clusters.proofs.edges.is_break.Goals as goal

pub unreachable-requires : goal.unreachable-requires
unreachable-requires c =
    let made = c.new-cursor.ensures in
    let ok = c.is_boundary.ensures.whole _ (made.on _ c.utf8.line refl c.requires) (IsChunkOf-whole _ c.utf8.line) refl refl made.fresh.1 in
    search (rules, arith)

pub returns : goal.returns
returns c =
    let made = c.new-cursor.ensures in
    rw (made.is_extended, made.offset, c.in-Ok.is) at (c.is_boundary.ensures.ok _ (made.on _ c.utf8.line refl c.requires) (IsChunkOf-whole _ c.utf8.line))
