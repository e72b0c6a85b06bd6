use Rattle.std.proofs.Common.{ap, arith, length}
use Rattle.std.proofs.lemmas.List.{length-map}
use Rattle.textarea_text.specs.Text.{characters_of, lines_of}
use Rattle.textarea_util.proofs.Replacing.{length-replaced}
use Rattle.textarea_screen_map.specs.Prepared.{rows_in}
use Rattle.textarea_screen_map.proofs.Layouts.{length-AreRowsOf}
use Rattle.textarea_bench.proofs.typing.steps.put_rows.Goals as goal

pub returns : goal.returns
returns c =
    let prepared = c.in_ok-prepared.prepared in
    let known = c.in_ok-prepared.ensures in
    let rows = rows_in prepared.rows in
    omega (
      arith,
      ap length c.replace.ensures.rows,
      length-replaced c.prepare.new.self.rows prepared.row prepared.count rows known.prepared.ready.within,
      ap length known.same,
      known.prepared.count_is,
      length-AreRowsOf _ (lines_of c.args.lines.now) rows known.rows,
      length-map c.args.lines.now characters_of,
    )
