use Rattle.std.proofs.Common.{refl}
use Rattle.std.proofs.Math.Bool.{or_assoc, or-false}
use Rattle.ucd_table.specs.Rows.{in_ranges}
use Rattle.textarea_paint.proofs.paint.letters.is_other_wide.Goals as goal

pub returns : goal.returns
unfolding in_ranges
returns c =
    rw (
      c.is_within-punctuation.ensures,
      c.is_within-hiragana.ensures,
      c.is_within-katakana.ensures,
      c.is_within-rare.ensures,
      c.is_within-hangul.ensures,
      c.is_within-wide_forms.ensures,
      c.is_within-animals.ensures,
      c.is_within-pictures.ensures,
      c.is_within-faces.ensures,
      c.is_within-rarest.ensures,
    )
    (simp (or_assoc, or-false) refl)
