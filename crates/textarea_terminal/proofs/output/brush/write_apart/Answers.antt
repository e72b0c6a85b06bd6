use Rattle.std.proofs.Common.{◌++◌, ap, ◌∙◌}
use Rattle.textarea_terminal.specs.Control.{bytes_of}
use Rattle.textarea_terminal.specs.Parted.{blank_prints}
use Rattle.textarea_terminal.proofs.PartedBytes.{parted-bytes}
use Rattle.textarea_terminal.proofs.output.brush.write_apart.Goals as goal

pub returns : goal.returns
returns c =
    parted-bytes c.args.spot.row c.args.spot.column c.args.symbol.now c.args.bytes.now.items _ _ _
    (c.in_ok-write_blanks.ensures ∙ ap (λ n. c.args.bytes.now.items ++ bytes_of (blank_prints n)) c.cluster_columns.ensures.value)
    c.in_ok-write_move.ensures c.in_ok-write_symbol.ensures
