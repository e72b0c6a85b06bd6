use Rattle.std.proofs.Common.{◌≡◌, ◌+◌, ◌*◌, ◌≤◌, true, length}
use Rattle.std.specs.List.{concat}
use Rattle.unicode_segmentation.specs.Grapheme.{graphemes}
use Rattle.unicode_segmentation.specs.Iter.{graphemes_left}
use Rattle.textarea_wrap.proofs.GlyphLemmas.{IsGlyphWalk}
use Rattle.textarea_wrap.proofs.wrap.glyphs.push_glyph_rows.Given as goal

abbrev pub invariant-loop-cluster : goal.invariant-loop-cluster
invariant-loop-cluster l = record {
  walk : IsGlyphWalk l.tab_len l.width l.start (graphemes true l.text) l.fn.rows.items l.rows.items (graphemes_left l.cluster-iterator) l.row_start l.row_end l.column;
  bytes : l.row_end + length (concat (graphemes_left l.cluster-iterator)) ≡ l.start + length l.text;
  narrow : l.column + 255 * length (concat (graphemes_left l.cluster-iterator)) ≤ 255 * length l.text;
}
