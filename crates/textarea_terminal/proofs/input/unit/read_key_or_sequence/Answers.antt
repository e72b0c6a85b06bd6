use Rattle.std.proofs.Common.{rules, ◌≡◌, get_or, arith}
use Rattle.textarea_terminal.proofs.InputUnits.{escape_begun_in}
use Rattle.textarea_terminal.proofs.input.unit.read_key_or_sequence.Goals as goal

pub read_escaped-requires-clause-begun : goal.read_escaped-requires-clause-begun
read_escaped-requires-clause-begun c =
    let first : get_or c.args.bytes.now 0 0 ≡ 27 = search rules in
    rw c.saturating_sub.ensures (escape_begun_in c.args.bytes.now c.args.begun (omega arith) first c.requires.begun)
