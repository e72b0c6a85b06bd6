use Rattle.std.proofs.Common.{refl, sym, inl, inr, ◌∙◌, arith, rules}
use Rattle.textarea_paint.proofs.LetterLemmas.{goes_on-end, goes_on-longer, goes_on-next, goes_on-start, last-end}
use Rattle.textarea_paint.proofs.paint.letters.after_letters.Goals as goal

pub letters-init : goal.letters-init
letters-init c = record {
  rest_text = search rules;
  last_text = search rules;
  few = omega arith;
  rest = goes_on-start c.args.columns c.args.text.now;
  last = inl refl;
}

pub letters-preserved : goal.letters-preserved
letters-preserved c = record {
  rest_text = search rules;
  last_text = search rules;
  few = omega arith;
  rest = goes_on-next c.letters.count c.letters.invariant.rest c.in-Some.ensures;
  last = inr (c.in-Some.ensures.apart, goes_on-longer c.letters.count c.letters.invariant.rest);
}

pub returns-then-begins_apart : goal.returns-then-begins_apart
returns-then-begins_apart c = inr (goes_on-end c.letters.invariant.rest (sym c.begins_apart.ensures ∙ c.if-begins_apart.true) c.letters.invariant.few)

pub returns-else-begins_apart : goal.returns-else-begins_apart
returns-else-begins_apart c = last-end c.letters.invariant.last c.letters.invariant.few
