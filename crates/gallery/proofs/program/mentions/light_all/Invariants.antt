use Rattle.std.proofs.Common.{◌≡◌}
use Rattle.gallery.proofs.program.mentions.light_all.Given as goal

abbrev pub invariant-loop-range : goal.invariant-loop-range
invariant-loop-range l = l.area.document ≡ l.initial.area.document
