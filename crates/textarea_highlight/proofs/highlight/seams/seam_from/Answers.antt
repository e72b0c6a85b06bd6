use Rattle.std.proofs.Common.{sym, subst, ap, arith}
use Rattle.textarea_highlight.specs.Seams.{IsColumnAt}
use Rattle.textarea_highlight.specs.declared.highlight.seams.RowOffset.{RowOffset}
use Rattle.textarea_highlight.proofs.MarkLemmas.{mark_column}
use Rattle.textarea_highlight.proofs.highlight.seams.seam_from.Goals as goal

pub walking-init : goal.walking-init
walking-init c =
    let row = c.args.row.now in
    let first = c.walk_from-walk.ensures in
    let start = mark_column row c.args.tab_len c.args.mark c.utf8.row c.requires.tabs c.requires.mark in
    let at = ap (λ (p : RowOffset). p.offset) first.at in
    let seam = ap (λ (p : RowOffset). p.offset) first.seam in (
      record {
        at = subst (IsColumnAt row c.args.tab_len) (sym first.at) start;
        seam = subst (IsColumnAt row c.args.tab_len) (sym first.seam) start;
        order = omega (arith, at, seam);
        last = λ yes. absurd (first.last.0 yes);
      },
      (λ later. absurd (omega (arith, later, seam))),
      ((λ later. absurd (omega (arith, later, seam))), omega (arith, seam)),
    )
