use Rattle.std.proofs.lemmas.Grind.{common_steps}
use Rattle.std.proofs.Common.{arith}
use Rattle.textarea_blocks.proofs.InBlocks.{block_count, marks_in_block, ranges_in_block, rows_are, slice_in_block}
use Rattle.textarea_blocks.proofs.blocks.RowBlocks.rows_at.Goals as goal

pub returns-clause-ranges : goal.returns-clause-ranges
returns-clause-ranges c = grind (arith, common_steps, rows_are, block_count, ranges_in_block)

pub returns-clause-marks : goal.returns-clause-marks
returns-clause-marks c = grind (arith, common_steps, rows_are, block_count, marks_in_block)

pub returns-clause-rows : goal.returns-clause-rows
returns-clause-rows c = grind (arith, common_steps, rows_are, block_count, slice_in_block)
