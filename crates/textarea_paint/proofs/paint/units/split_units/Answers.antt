use Rattle.std.proofs.Common.{refl}
use Rattle.textarea_paint.proofs.UnitLemmas.{unit-sized}
use Rattle.textarea_paint.proofs.paint.units.split_units.Goals as goal

pub after_units-after-requires : goal.after_units-after-requires
after_units-after-requires c = record {
  first = unit-sized c.in_ok-columns.ensures refl;
  some = c.letters_within.ensures.some c.requires;
}
