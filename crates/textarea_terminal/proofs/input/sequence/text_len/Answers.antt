use Rattle.std.proofs.Common.{◌≡◌, ◌-◌, true, false, get_or, drop, sym, ap, ◌∙◌, arith}
use Rattle.std.proofs.lemmas.List.{at_drop_all, get_or-drop}
use Rattle.textarea_terminal.specs.InputSequence.{is_text, count_front, text_limit}
use Rattle.textarea_terminal.proofs.InputPrefixes.{count_front-more, count_front-end, count_front-nil, count_front-zero, count_front-most, count_front-split}
use Rattle.textarea_terminal.proofs.input.sequence.text_len.Goals as goal

pub loop-byte-init : goal.loop-byte-init
loop-byte-init c = record {
  index = omega arith;
  limit = omega (arith, c.requires.begun, count_front-most is_text text_limit c.args.bytes.now);
  count = sym (count_front-split is_text text_limit c.args.begun c.args.bytes.now c.requires.begun);
}

pub loop-byte-preserved : goal.loop-byte-preserved
loop-byte-preserved c =
    let at : get_or c.args.bytes.now c.loop-byte.len 0 ≡ get_or c.split_at.result.1.now c.loop-byte.byte-index 0 =
    ap (λ n. get_or c.args.bytes.now n 0) c.loop-byte.invariant.index ∙ sym (get_or-drop c.args.begun c.args.bytes.now c.loop-byte.byte-index 0)
    ∙ ap (λ xs. get_or xs c.loop-byte.byte-index 0) (sym c.split_at.ensures.back) in
    let here : is_text (get_or c.args.bytes.now c.loop-byte.len 0) ≡ true = ap is_text at ∙ sym c.may_be_text.ensures ∙ c.if-not-may_be_text.false in
    record {
      index = omega arith;
      limit = omega arith;
      count = omega (arith, count_front-more is_text text_limit c.args.bytes.now c.loop-byte.len (omega arith) (omega arith) here, c.loop-byte.invariant.count);
    }

pub returns-then-len-eq-TEXT_LIMIT-clause-count : goal.returns-then-len-eq-TEXT_LIMIT-clause-count
returns-then-len-eq-TEXT_LIMIT-clause-count c =
    let none : text_limit - c.loop-byte.len ≡ 0 = omega arith in
    let end = ap (λ n. count_front is_text n (drop c.loop-byte.len c.args.bytes.now)) none ∙ count_front-zero is_text (drop c.loop-byte.len c.args.bytes.now) in
    omega (arith, end, c.loop-byte.invariant.count)

pub returns-then-not-may_be_text-clause-count : goal.returns-then-not-may_be_text-clause-count
returns-then-not-may_be_text-clause-count c =
    let at : get_or c.args.bytes.now c.loop-byte.len 0 ≡ get_or c.split_at.result.1.now c.loop-byte.byte-index 0 =
    ap (λ n. get_or c.args.bytes.now n 0) c.loop-byte.invariant.index ∙ sym (get_or-drop c.args.begun c.args.bytes.now c.loop-byte.byte-index 0)
    ∙ ap (λ xs. get_or xs c.loop-byte.byte-index 0) (sym c.split_at.ensures.back) in
    let here : is_text (get_or c.args.bytes.now c.loop-byte.len 0) ≡ false = ap is_text at ∙ sym c.may_be_text.ensures ∙ c.if-not-may_be_text.true in
    omega (arith, count_front-end is_text (text_limit - c.loop-byte.len) c.args.bytes.now c.loop-byte.len (omega arith) here, c.loop-byte.invariant.count)

pub returns-clause-count : goal.returns-clause-count
returns-clause-count c =
    let end = at_drop_all (count_front is_text (text_limit - c.loop-byte.len)) c.args.bytes.now c.loop-byte.len (omega arith) ∙ count_front-nil is_text (text_limit - c.loop-byte.len) in
    omega (arith, end, c.loop-byte.invariant.count)
