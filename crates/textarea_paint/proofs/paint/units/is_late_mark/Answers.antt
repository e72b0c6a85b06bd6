use Rattle.std.proofs.Common.{refl}
use Rattle.std.proofs.Math.Bool.{or_assoc, or-false}
use Rattle.ucd_table.specs.Rows.{in_ranges}
use Rattle.textarea_paint.proofs.paint.units.is_late_mark.Goals as goal

pub returns : goal.returns
unfolding in_ranges
returns c =
    rw (c.is_within-more_accents.ensures, c.is_within-signs.ensures, c.is_within-kana.ensures, c.is_within-selectors.ensures)
    (simp (or_assoc, or-false) refl)
