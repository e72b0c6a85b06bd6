use Rattle.std.proofs.Common.{◌≡◌, ◌+◌, ◌<◌, ◌∙◌, [], ap, arith, get_or, length, take}
use Rattle.std.proofs.lemmas.Grind.{common_steps}
use Rattle.textarea_blocks.specs.Prelude.{BlocksView, all_rows, lines_before, rows_of_each, row_total}
use Rattle.textarea_blocks.proofs.InBlocks.{rows_sum, total_in_block}
use Rattle.textarea_blocks.proofs.Numbers.{row_total-take_le}
use Rattle.textarea_blocks.proofs.blocks.RowBlocks.first_row.Goals as goal
use Rattle.textarea_blocks.proofs.blocks.RowBlocks.first_row.Goals.{After-count_rows}

counted : (c : After-count_rows) → c.at.result + c.count_rows.result ≡ row_total (take c.args.line (all_rows (rows_of_each c.self.inside.blocks.items)))
counted c =
    let items = c.self.inside.blocks.items in
    let blocks = rows_of_each items in
    let block = c.place_of-block.result.0 in
    let index = c.place_of-block.result.1 in
    let within : block < length blocks = omega (arith, c.place_of-block.ensures.block.within, ap (λ (v : BlocksView). length v.blocks) c.self.view_is) in
    let inside : index < length (get_or blocks block []) = omega (arith, c.place_of-block.ensures.within, ap (λ (v : BlocksView). length (get_or v.blocks block [])) c.self.view_is) in
    let at : lines_before blocks block + index ≡ c.args.line = omega (arith, c.place_of-block.ensures.line, ap (λ (v : BlocksView). lines_before v.blocks block) c.self.view_is) in
    grind (arith, common_steps, total_in_block row_total rows_sum blocks block index c.args.line within (omega arith) at, row_total-take_le c.args.line (all_rows blocks))

pub overflow_add-result : goal.overflow_add-result
overflow_add-result c =
    omega (arith, counted c, row_total-take_le c.args.line (all_rows (rows_of_each c.self.inside.blocks.items)), c.self.invariant.few_rows)

pub returns : goal.returns
returns c =
    counted c ∙ ap (λ (v : BlocksView). row_total (take c.args.line (all_rows v.blocks))) c.self.view_is
