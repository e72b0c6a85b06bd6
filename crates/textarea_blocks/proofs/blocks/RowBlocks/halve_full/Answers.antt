use Rattle.std.proofs.Common.{◌≡◌, ◌<◌, [], ap, arith, get_or, length}
use Rattle.textarea_blocks.specs.Blocks.{BlocksView}
use Rattle.textarea_blocks.proofs.InBlocks.{block_count, rows_are}
use Rattle.textarea_blocks.proofs.Splits.{halved_fits}
use Rattle.textarea_blocks.proofs.blocks.RowBlocks.halve_full.Goals as goal

pub returns-then-saturating_add-gt-FULL-clause-room : goal.returns-then-saturating_add-gt-FULL-clause-room
returns-then-saturating_add-gt-FULL-clause-room c =
    let old = c.args.self.now in
    let items = c.self.inside.blocks.items in
    let block = c.place_of-block.result.0 in
    let index = c.place_of-block.result.1 in
    let there : block < length items = omega (arith, c.place_of-block.ensures.block.within, ap (λ (v : BlocksView). length v.blocks) c.self.view_is, block_count items) in
    let size : c.len-len.result ≡ length (get_or old.blocks block []) =
    omega (arith, c.len-len.ensures, c.index.result.now.ok.0, ap length (rows_are items block c.index.result.now there c.index.ensures), ap (λ (v : BlocksView). length (get_or v.blocks block [])) c.self.view_is) in
    halved_fits c.split.result old c.split.new.self block _ _ c.args.row index c.args.count c.args.come c.split.ensures.split c.split.ensures.err
    c.place_of-block.ensures.block.within (omega (arith, size)) c.place_of-block.ensures.line c.place_of-block.ensures.within c.requires.room
    (omega (arith, size, c.saturating_sub-extra.ensures, c.min.ensures))
