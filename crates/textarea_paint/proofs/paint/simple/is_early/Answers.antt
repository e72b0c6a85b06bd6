use Rattle.std.proofs.Common.{refl}
use Rattle.std.proofs.Math.Bool.{or_assoc, or-false}
use Rattle.ucd_table.specs.Rows.{in_ranges}
use Rattle.textarea_paint.proofs.paint.simple.is_early.Goals as goal

pub returns : goal.returns
unfolding in_ranges
returns c =
    rw (
      c.is_within-ascii.ensures,
      c.is_within-signs.ensures,
      c.is_within-latin.ensures,
      c.is_within-greek.ensures,
      c.is_within-cyrillic.ensures,
      c.is_within-hebrew.ensures,
      c.is_within-arabic.ensures,
      c.is_within-persian.ensures,
      c.is_within-georgian.ensures,
      c.is_within-extended.ensures,
      c.is_within-punctuation.ensures,
      c.is_within-currencies.ensures,
      c.is_within-symbols.ensures,
    )
    (simp (or_assoc, or-false) refl)
