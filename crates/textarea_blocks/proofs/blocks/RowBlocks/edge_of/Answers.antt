use Rattle.std.proofs.Common.{arith, length}
use Rattle.textarea_blocks.proofs.InBlocks.{before_within, edge_there, lines_sum}
use Rattle.textarea_blocks.proofs.blocks.RowBlocks.edge_of.Goals as goal

pub place_of-requires : goal.place_of-requires
place_of-requires c =
    omega (arith, c.requires.2, before_within length lines_sum c.args.self.now.blocks c.requires.0, c.line_count.ensures, c.if-line-line_count.false)

pub returns-clause-edge : goal.returns-clause-edge
returns-clause-edge c =
    edge_there c.args.self.now.blocks c.args.line c.place_of.result.0 c.requires c.place_of.ensures.block
