use Rattle.std.proofs.Common.{◌<◌, length, sym, ap, ◌∙◌, arith}
use Rattle.textarea_terminal.specs.InputReply.{stripped, with_stripped}
use Rattle.textarea_terminal.proofs.InputReplies.{with_stripped-end, nothing_left}
use Rattle.textarea_terminal.proofs.input.reply.strip.Goals as goal

pub returns : goal.returns
returns c =
    let parts = c.loop-first.parts in
    let none : length c.loop-first.rest.now < 1 = omega (arith, c.in_default.ensures.cases) in
    let empty = nothing_left c.loop-first.rest.now none in
    sym (with_stripped-end parts) ∙ ap (λ xs. with_stripped parts (stripped parts.expected xs)) (sym empty) ∙ c.loop-first.invariant
