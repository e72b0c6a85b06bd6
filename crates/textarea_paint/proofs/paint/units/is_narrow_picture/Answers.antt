use Rattle.std.proofs.Common.{refl}
use Rattle.std.proofs.Math.Bool.{or_assoc, or-false}
use Rattle.ucd_table.specs.Rows.{in_ranges}
use Rattle.textarea_paint.proofs.paint.units.is_narrow_picture.Goals as goal

pub returns : goal.returns
unfolding in_ranges
returns c =
    rw (c.is_within-female.ensures, c.is_within-male.ensures, c.is_within-medicine.ensures, c.is_within-heart.ensures, c.is_within-flag.ensures)
    (simp (or_assoc, or-false) refl)
