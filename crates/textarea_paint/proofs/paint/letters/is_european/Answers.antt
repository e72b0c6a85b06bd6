use Rattle.std.proofs.Common.{refl}
use Rattle.std.proofs.Math.Bool.{or_assoc, or-false}
use Rattle.ucd_table.specs.Rows.{in_ranges}
use Rattle.textarea_paint.proofs.paint.letters.is_european.Goals as goal

pub returns : goal.returns
unfolding in_ranges
returns c =
    rw (c.is_within-ascii.ensures, c.is_within-signs.ensures, c.is_within-latin.ensures, c.is_within-greek.ensures, c.is_within-cyrillic.ensures)
    (simp (or_assoc, or-false) refl)
