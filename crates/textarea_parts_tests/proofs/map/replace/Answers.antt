use Rattle.std.proofs.Common.{arith}
use Rattle.textarea_screen_map.specs.Prepared.{rows_in}
use Rattle.textarea_parts_tests.proofs.RowLists.{one_list_a_line, rows_replaced}
use Rattle.textarea_parts_tests.proofs.map.replace.Goals as goal

pub prepare-requires : goal.prepare-requires
prepare-requires c = omega (arith, one_list_a_line c.args.wrapping c.args.lines.now.items c.args.map.now.rows c.requires.rows)

pub returns-clause-rows : goal.returns-clause-rows
returns-clause-rows c =
    let change = c.args.change in
    let made = c.in_ok-prepared.ensures in
    let prepared = c.in_ok-prepared.prepared in
    rows_replaced c.args.wrapping c.args.lines.now.items change.lines.items c.as_slice.result.now c.apply.new.lines.items change.row change.count prepared.row prepared.count
    c.args.map.now.rows c.prepare.new.self.rows (rows_in prepared.rows) c.replace.new.self.rows c.requires.rows made.rows c.as_slice.ensures.value made.same made.prepared.row_is
    made.prepared.count_is c.replace.ensures.rows c.in_ok-apply.ensures.ok
