use Rattle.std.proofs.Common.{◌≡◌, ◌+◌, ◌-◌, arith, length}
use Rattle.std.proofs.lemmas.Grind.{common_steps}
use Rattle.textarea_blocks.specs.Prelude.{all_rows, lines_before}
use Rattle.textarea_util.proofs.Replacing.{length-replaced}
use Rattle.textarea_blocks.proofs.Exchanging.{rest_removed}
use Rattle.textarea_blocks.proofs.InBlocks.{blocks_replaced, lines_sum}
use Rattle.textarea_blocks.proofs.Totals.{all_exchanged, total_after}
use Rattle.textarea_blocks.proofs.blocks.RowBlocks.replace_many.Goals as goal
use Rattle.textarea_blocks.proofs.blocks.RowBlocks.replace_many.Goals.{After-block_count-blocks_now}

-- the block after the new ones, and the lines before it
next :
    (c : After-block_count-blocks_now) → (c.block_count-blocks_now.result - (c.block_count.result - c.edge_of-block.result) ≡ c.edge_of-block.result + (length c.args.rows.blocks + 0))
    × (lines_before c.exchange_blocks.new.self.blocks (c.edge_of-block.result + (length c.args.rows.blocks + 0)) ≡ c.args.row + length (all_rows c.args.rows.blocks))
    × (length (all_rows c.exchange_blocks.new.self.blocks) ≡ length (all_rows c.args.self.now.blocks) + length (all_rows c.args.rows.blocks))
next c =
    let blocks = c.args.self.now.blocks in
    let new = c.args.rows.blocks in
    let block = c.edge_of-block.result in
    let within = c.edge_of-block.ensures.within in (
      grind (arith, common_steps, length-replaced blocks block (block - block) new (omega (arith, within))),
      grind (arith, common_steps, total_after length lines_sum blocks new block block 0 (omega arith) within),
      grind (arith, common_steps, all_exchanged length lines_sum blocks new block block (omega arith) within),
    )

pub remove_first-requires-clause-count : goal.remove_first-requires-clause-count
remove_first-requires-clause-count c = grind (arith, common_steps, next)

pub returns : goal.returns
returns c = grind (arith, common_steps, next, blocks_replaced, rest_removed)
