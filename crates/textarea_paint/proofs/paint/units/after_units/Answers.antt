use Rattle.std.proofs.Common.{refl, sym, inl, inr, ◌∙◌, arith, rules}
use Rattle.textarea_paint.proofs.UnitLemmas.{goes_on-end, goes_on-first, goes_on-longer, goes_on-next, last-end}
use Rattle.textarea_paint.proofs.paint.units.after_units.Goals as goal

pub units-init : goal.units-init
units-init c = record {
  rest_text = search rules;
  last_text = search rules;
  few = omega arith;
  rest = goes_on-first c.requires.first;
  last = inl refl;
}

pub units-preserved : goal.units-preserved
units-preserved c = record {
  rest_text = search rules;
  last_text = search rules;
  few = omega arith;
  rest = goes_on-next c.units.count c.units.invariant.rest c.in-Some.ensures.unit;
  last = inr (c.in-Some.ensures.apart, goes_on-longer c.units.count c.units.invariant.rest);
}

pub returns-then-begins_apart : goal.returns-then-begins_apart
returns-then-begins_apart c = inr (goes_on-end c.units.invariant.rest (sym c.begins_apart.ensures ∙ c.if-begins_apart.true) c.units.invariant.few)

pub returns-else-begins_apart : goal.returns-else-begins_apart
returns-else-begins_apart c = last-end c.units.invariant.last c.units.invariant.few
