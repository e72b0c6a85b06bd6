use Rattle.std.proofs.Common.{◌≡◌, ◌+◌, inl, inr, true, length, refl, ap, ◌∙◌, arith, length-append}
use Rattle.std.specs.List.{concat}
use Rattle.unicode_segmentation.specs.Grapheme.{is_grapheme_break}
use Rattle.unicode_segmentation.specs.Iter.{graphemes_left}
use Rattle.unicode_segmentation.proofs.SegmentsLemmas.{concat-segments, segments_nonempty}
use Rattle.textarea_wrap.proofs.GlyphLemmas.{IsGlyphWalk-start, IsGlyphWalk-extend, IsGlyphWalk-break, IsGlyphWalk-end}
use Rattle.textarea_wrap.proofs.wrap.glyphs.push_glyph_rows.Goals as goal
use Rattle.textarea_wrap.proofs.wrap.glyphs.push_glyph_rows.Goals.{then-row_start-row_end+then-width-end+in_ok-push, else-row_start-row_end}
use Rattle.textarea_wrap.proofs.wrap.glyphs.push_glyph_rows.Goals.{else-row_start-row_end-via-then-row_start-row_end+else-width-end, else-row_start-row_end-via-else-row_start-row_end}

pub loop-cluster-init : goal.loop-cluster-init
loop-cluster-init c =
    let all = ap graphemes_left c.into_iter-cluster-iterator.ensures.into_iter_gives ∙ c.graphemes-cluster-items.ensures.left in
    let bytes : length (concat (graphemes_left c.into_iter-cluster-iterator.result)) ≡ length c.args.text.now =
    ap (λ t. length (concat t)) all ∙ ap length (concat-segments (is_grapheme_break true) c.args.text.now c.utf8.text) in
    record {
      walk = rw all (IsGlyphWalk-start _ _ _ _ _ (segments_nonempty (is_grapheme_break true) c.args.text.now));
      bytes = omega arith;
      narrow = omega arith;
    }

pub loop-cluster-preserved : goal.loop-cluster-preserved
loop-cluster-preserved c =
    let was = c.loop-cluster.invariant in
    let left = graphemes_left c.next.new.self in
    let cluster = c.in-Some.cluster.now in
    let walk = rw c.in-Some.ensures.steps at was.walk in
    let len : length (concat (graphemes_left c.loop-cluster.cluster-iterator)) ≡ length cluster + length (concat left) =
    ap (λ t. length (concat t)) c.in-Some.ensures.steps ∙ length-append cluster (concat left) in
    let made = c.column_after_text-end.ensures in
    let bytes : c.loop-cluster.row_end + length cluster + length (concat left) ≡ c.args.start + length c.args.text.now = omega (arith, was.bytes) in
    elim c.if-row_start-row_end.branch [
      | then-row_start-row_end+then-width-end+in_ok-push w ↦
          let again = w.column_after_text-column.ensures in
          rw (w.rows-is, w.in_ok-push.ensures.ok, w.row_start-is, w.column-is, again.value)
          record {
            walk = IsGlyphWalk-break _ _ _ _ _ _ _ _ _ _ _ _ walk w.if-row_start-row_end.true made.value w.if-width-end.true;
            bytes = bytes;
            narrow = omega (arith, again.value, again.near, was.narrow);
          }
      | else-row_start-row_end w ↦
          rw (w.rows-is, w.row_start-is, w.column-is)
          record {
            walk = IsGlyphWalk-extend _ _ _ _ _ _ _ _ _ _ _ _ walk made.value (elim w.else-row_start-row_end.branch [
              | else-row_start-row_end-via-then-row_start-row_end+else-width-end v ↦ inr v.if-width-end.false
              | else-row_start-row_end-via-else-row_start-row_end v ↦ inl v.if-row_start-row_end.false
            ]);
            bytes = bytes;
            narrow = omega (arith, made.near, was.narrow);
          }
    ]

pub returns : goal.returns
returns c =
    IsGlyphWalk-end _ _ _ _ _ _ _ _ _ c.args.text.now c.utf8.text refl (rw c.in-None.ensures.steps.0 at c.loop-cluster.invariant.walk) _ _ c.push_nonempty.ensures.some c.push_nonempty.ensures.none
