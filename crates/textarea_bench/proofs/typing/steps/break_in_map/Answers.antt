use Rattle.std.proofs.Common.{arith}
use Rattle.std.proofs.lemmas.List.{length-map}
use Rattle.textarea_text.specs.Text.{characters_of, lines_of}
use Rattle.textarea_screen_map.proofs.Layouts.{length-AreRowsOf}
use Rattle.textarea_bench.proofs.typing.steps.break_in_map.Goals as goal

pub break_rows-broken-requires : goal.break_rows-broken-requires
break_rows-broken-requires c =
    omega (arith, length-AreRowsOf _ (lines_of c.args.lines.now) c.in_ok-map.map.rows c.in_ok-map.ensures.rows, length-map c.args.lines.now characters_of, c.if-row-lines.true)
