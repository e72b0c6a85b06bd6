use Rattle.std.proofs.Common.{◌≡◌, ◌-◌, true, false, get_or, drop, sym, ap, ◌∙◌, arith}
use Rattle.std.proofs.lemmas.List.{at_drop_all}
use Rattle.textarea_terminal.specs.InputSequence.{is_inner, count_front, inner_limit}
use Rattle.textarea_terminal.proofs.InputPrefixes.{count_front-more, count_front-end, count_front-nil, count_front-zero}
use Rattle.textarea_terminal.proofs.input.sequence.inner_len.Goals as goal

pub loop-byte-preserved : goal.loop-byte-preserved
loop-byte-preserved c =
    let here : is_inner (get_or c.args.bytes.now c.loop-byte.len 0) ≡ true = rw c.loop-byte.invariant.index (sym c.may_be_inner.ensures ∙ c.if-not-may_be_inner.false) in
    record {
      index = omega arith;
      limit = omega arith;
      count = omega (arith, count_front-more is_inner inner_limit c.args.bytes.now c.loop-byte.len (omega arith) (omega arith) here);
    }

pub returns-then-len-eq-INNER_LIMIT-clause-count : goal.returns-then-len-eq-INNER_LIMIT-clause-count
returns-then-len-eq-INNER_LIMIT-clause-count c =
    let none : inner_limit - c.loop-byte.len ≡ 0 = omega arith in
    let end = ap (λ n. count_front is_inner n (drop c.loop-byte.len c.args.bytes.now)) none ∙ count_front-zero is_inner (drop c.loop-byte.len c.args.bytes.now) in
    omega (arith, end, c.loop-byte.invariant.count)

pub returns-then-not-may_be_inner-clause-count : goal.returns-then-not-may_be_inner-clause-count
returns-then-not-may_be_inner-clause-count c =
    let here : is_inner (get_or c.args.bytes.now c.loop-byte.len 0) ≡ false = rw c.loop-byte.invariant.index (sym c.may_be_inner.ensures ∙ c.if-not-may_be_inner.true) in
    omega (arith, count_front-end is_inner (inner_limit - c.loop-byte.len) c.args.bytes.now c.loop-byte.len (omega arith) here, c.loop-byte.invariant.count)

pub returns-clause-count : goal.returns-clause-count
returns-clause-count c =
    let end = at_drop_all (count_front is_inner (inner_limit - c.loop-byte.len)) c.args.bytes.now c.loop-byte.len (omega arith) ∙ count_front-nil is_inner (inner_limit - c.loop-byte.len) in
    omega (arith, end, c.loop-byte.invariant.count)
