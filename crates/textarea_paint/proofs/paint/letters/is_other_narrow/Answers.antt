use Rattle.std.proofs.Common.{refl}
use Rattle.std.proofs.Math.Bool.{or_assoc, or-false}
use Rattle.ucd_table.specs.Rows.{in_ranges}
use Rattle.textarea_paint.proofs.paint.letters.is_other_narrow.Goals as goal

pub returns : goal.returns
unfolding in_ranges
returns c =
    rw (
      c.is_within-early_hebrew.ensures,
      c.is_within-late_hebrew.ensures,
      c.is_within-arabic.ensures,
      c.is_within-persian.ensures,
      c.is_within-georgian.ensures,
      c.is_within-extended.ensures,
      c.is_within-punctuation.ensures,
      c.is_within-currencies.ensures,
      c.is_within-signs.ensures,
      c.is_within-lines.ensures,
    )
    (simp (or_assoc, or-false) refl)
