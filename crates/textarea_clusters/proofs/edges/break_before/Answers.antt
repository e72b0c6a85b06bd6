use Rattle.std.proofs.Common.{refl, arith, rules, subst, IsCharBoundary}
use Rattle.unicode_segmentation.proofs.CursorLemmas.{IsChunkOf-whole}
use Rattle.textarea_clusters.proofs.edges.break_before.Goals as goal

pub unreachable-requires : goal.unreachable-requires
unreachable-requires c =
    let made = c.new-cursor.ensures in
    let ok = c.prev_boundary.ensures.whole _ (made.on _ c.utf8.line refl c.requires.boundary) (IsChunkOf-whole _ c.utf8.line) refl refl made.fresh.1 in
    search (rules, arith)

pub returns-clause-boundary : goal.returns-clause-boundary
returns-clause-boundary c =
    let made = c.new-cursor.ensures in
    let whole = IsChunkOf-whole _ c.utf8.line in
    let on = made.on _ c.utf8.line refl c.requires.boundary in
    subst (IsCharBoundary c.args.line.now) (rw c.in-Ok-Some.field-0-is at (c.in-Ok-Some.ensures.found _ on whole)).moved (c.in-Ok-Some.ensures.on _ on whole).boundary

pub returns-clause-before : goal.returns-clause-before
returns-clause-before c =
    let made = c.new-cursor.ensures in
    let found = c.in-Ok-Some.ensures.found _ (made.on _ c.utf8.line refl c.requires.boundary) (IsChunkOf-whole _ c.utf8.line) in
    rw (made.fresh.0, made.offset) at (rw c.in-Ok-Some.field-0-is at found).behind

pub returns-clause-is_break : goal.returns-clause-is_break
returns-clause-is_break c =
    let made = c.new-cursor.ensures in
    let found = c.in-Ok-Some.ensures.found _ (made.on _ c.utf8.line refl c.requires.boundary) (IsChunkOf-whole _ c.utf8.line) in
    rw made.is_extended at (rw c.in-Ok-Some.field-0-is at found).boundary

pub returns-clause-last : goal.returns-clause-last
returns-clause-last c =
    let made = c.new-cursor.ensures in
    let found = c.in-Ok-Some.ensures.found _ (made.on _ c.utf8.line refl c.requires.boundary) (IsChunkOf-whole _ c.utf8.line) in
    rw (made.fresh.0, made.offset, made.is_extended) at (rw c.in-Ok-Some.field-0-is at found).last
