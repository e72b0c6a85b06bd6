use Rattle.std.proofs.Common.{sym, ◌∙◌}
use Rattle.std.proofs.Math.Bool.{or-false}
use Rattle.ucd_table.specs.Rows.{in_ranges}
use Rattle.textarea_paint.proofs.paint.letters.is_ideograph.Goals as goal

pub returns : goal.returns
unfolding in_ranges
returns c = c.is_within.ensures ∙ sym (or-false _)
