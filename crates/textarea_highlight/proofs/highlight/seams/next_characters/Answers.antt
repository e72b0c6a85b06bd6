use Rattle.std.proofs.Common.{arith, inr}
use Rattle.textarea_highlight.proofs.SeamLemmas.{ends_visible, seam_before_last}
use Rattle.textarea_highlight.proofs.highlight.seams.next_characters.Goals as goal

pub returns-clause-known : goal.returns-clause-known
returns-clause-known c = record {
  at = c.after_visible-at.ensures.known;
  seam = c.after_visible-seam.ensures.known;
  order = omega (arith, c.after_visible-at.ensures.offset, c.after_visible-seam.ensures.offset);
  last = λ _. (
    omega (arith, c.after_visible-at.ensures.offset, c.if-count-lt2.false),
    ends_visible c.args.row.now c.args.tab_len c.args.walk.at c.visible_before-count.result c.utf8.row c.requires.known.at c.visible_before-count.ensures.visible
        (omega (arith, c.if-count-lt2.false)) c.after_visible-at.result.offset c.after_visible-at.ensures.offset,
  );
}

pub returns-clause-seam : goal.returns-clause-seam
returns-clause-seam c = inr (
  seam_before_last c.args.row.now c.args.tab_len c.args.walk.at c.visible_before-count.result c.utf8.row c.requires.known.at c.visible_before-count.ensures.visible
      (omega (arith, c.if-count-lt2.false)) c.after_visible-seam.result.offset c.after_visible-seam.ensures.offset,
  omega (arith, c.after_visible-seam.ensures.offset),
  λ before. omega (arith, before, c.after_visible-seam.ensures.column, c.visible_before-count.ensures.count.at_most, c.if-count-lt2.false),
)
