use Rattle.std.proofs.Common.{subst, arith, rules}
use Rattle.std.proofs.lemmas.Str.{len_utf8_bounds}
use Rattle.textarea_paint.specs.Units.{IsTail}
use Rattle.textarea_paint.proofs.ColumnLemmas.{char_columns-le}
use Rattle.textarea_paint.proofs.UnitLemmas.{tail-end, tail-next}
use Rattle.textarea_paint.proofs.paint.units.after_joined.Goals as goal

pub joined-init : goal.joined-init
joined-init c = record {
  rest_text = search rules;
  few = omega arith;
  bound = omega (arith, c.requires, char_columns-le c.args.first, (len_utf8_bounds c.args.first).1);
  tail = λ end total t. subst (λ n. IsTail c.args.first n c.args.text.now end total) c.requires t;
}

pub joined-preserved : goal.joined-preserved
joined-preserved c = record {
  rest_text = search rules;
  few = omega arith;
  bound = omega (arith, c.joined.invariant.bound, c.in-Some.ensures.bound);
  tail = λ end total t. c.joined.invariant.tail end total (tail-next c.in-Some.ensures.joined t);
}

pub returns : goal.returns
returns c = c.joined.invariant.tail c.joined.rest.now c.joined.columns (tail-end c.args.first c.joined.columns c.joined.rest.now)
