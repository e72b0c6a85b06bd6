use Rattle.std.proofs.Common.{◌++◌, length, refl, ap, ◌∙◌, arith}
use Rattle.textarea_terminal.proofs.InputStreams.{rest_of-le, rest_of-removed}
use Rattle.textarea_terminal.proofs.input.decoder.read_begun.Goals as goal

pub overflow_sub-count : goal.overflow_sub-count
overflow_sub-count c = omega (arith, ap length c.in_ok-rest.ensures.rest, rest_of-le c.as_slice.result.now)

pub returns-clause-pending : goal.returns-clause-pending
returns-clause-pending c =
    rest_of-removed c.as_slice.result.now (c.args.pending.now.items ++ c.args.bytes.now) c.remove_front.new.bytes.items c.in_ok-rest.rest.now c.len.result (length c.in_ok-rest.rest.now)
    (c.as_slice.ensures.value ∙ c.in_ok-extend_from_slice.ensures.items) (rw c.as_slice.ensures.value c.remove_front.ensures) (omega arith) refl c.in_ok-rest.ensures.rest
