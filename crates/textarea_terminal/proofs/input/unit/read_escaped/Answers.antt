use Rattle.std.proofs.Common.{sym, ◌∙◌, arith}
use Rattle.textarea_terminal.proofs.InputUnits.{begun_string_in}
use Rattle.textarea_terminal.proofs.input.unit.read_escaped.Goals as goal

pub read_string-requires-clause-begun : goal.read_string-requires-clause-begun
read_string-requires-clause-begun c =
    rw c.saturating_sub.ensures (begun_string_in c.args.bytes.now c.args.begun (omega arith) (sym c.begins_string.ensures ∙ c.if-begins_string.true) (omega arith) c.requires.begun)
