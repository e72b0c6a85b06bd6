use Rattle.std.proofs.lemmas.Grind.{common_steps}
use Rattle.std.proofs.Common.{◌≡◌, ◌+◌, ◌-◌, ◌<◌, ◌≤◌, ◌∙◌, [], ap, arith, get_or, length, refl, set, sym, vec_capacity, vec_len}
use Rattle.std.proofs.lemmas.List.{get_or-set_same, length-set, set-get_or}
use Rattle.std.proofs.lemmas.Result.{on_err_weaker, on_ok_weaker}
use Rattle.textarea_blocks.specs.Blocks.{BlocksView, IsBlockOf, lines_before, rows_of_each, spare_of_each}
use Rattle.textarea_blocks.proofs.InBlocks.{before_more, block_count, blocks_set, lines_sum, one_block, rows_are, spare_is, spare_set, view_same}
use Rattle.textarea_blocks.proofs.blocks.RowBlocks.reserve_in_block.Goals as goal
use Rattle.textarea_blocks.proofs.blocks.RowBlocks.reserve_in_block.Goals.{After-reserve}

within : (c : After-reserve) → c.place_of-block.result.0 < length c.self.inside.blocks.items
within c =
    omega (arith, c.place_of-block.ensures.block.within, ap (λ (v : BlocksView). length v.blocks) c.self.view_is, block_count c.self.inside.blocks.items)

-- the rows of the blocks are unchanged
rows_unchanged : (c : After-reserve) → rows_of_each (set c.self.inside.blocks.items c.place_of-block.result.0 c.reserve.new.self) ≡ rows_of_each c.self.inside.blocks.items
rows_unchanged c = grind (arith, common_steps, blocks_set, rows_are, within c, set-get_or)

pub invariant_of-self : goal.invariant_of-self
invariant_of-self c = rw (rows_unchanged (goal.at.invariant_of-self c).After-reserve) c.self.invariant

pub returns-clause-same : goal.returns-clause-same
returns-clause-same c =
    rows_unchanged (goal.at.returns-clause-same c).After-reserve ∙ ap (λ (v : BlocksView). v.blocks) c.self.view_is

pub returns-clause-room : goal.returns-clause-room
returns-clause-room c =
    let known = (goal.at.returns-clause-room c).After-reserve in
    let items = c.self.inside.blocks.items in
    let blocks = rows_of_each items in
    let block = c.place_of-block.result.0 in
    let now = set items block c.reserve.new.self in
    let same = rows_unchanged known in
    let there = within known in
    let viewed = ap (λ (v : BlocksView). v.blocks) c.self.view_is in
    let inside : IsBlockOf (rows_of_each now) c.args.row block = rw (same, viewed) c.place_of-block.ensures.block in
    let spare = spare_is now block c.reserve.new.self (omega (arith, there, length-set items block c.reserve.new.self)) (sym (get_or-set_same items block c.reserve.new.self c.reserve.new.self there)) in
    let at = c.place_of-block.ensures.line in
    let size : c.len.result ≡ length (get_or blocks block []) = omega (arith, c.len.ensures, c.index.result.now.ok.0, ap length (rows_are items block c.index.result.now there c.index.ensures)) in
    on_ok_weaker c.reserve.result
    (λ (room : vec_len c.reserve.new.self + c.saturating_sub.result ≤ vec_capacity c.reserve.new.self).
    λ k h.
    let one : k ≡ block = one_block (rows_of_each now) c.args.row k block h inside in
    omega (
      arith,
      room,
      c.saturating_sub.ensures,
      c.min-shared.ensures,
      size,
      spare,
      ap (λ n. get_or (spare_of_each now) n 0) one,
      ap (λ n. lines_before (rows_of_each now) (n + 1)) one,
      ap (λ t. lines_before t (block + 1)) same,
      before_more length lines_sum blocks block (omega (arith, there, block_count items)),
      at,
      ap (λ t. lines_before t block) viewed,
      c.place_of-block.ensures.within,
      ap (λ t. length (get_or t block [])) viewed,
    ))
    c.reserve.ensures.ok

pub returns-clause-err : goal.returns-clause-err
returns-clause-err c =
    let known = (goal.at.returns-clause-err c).After-reserve in
    let items = c.self.inside.blocks.items in
    let block = c.place_of-block.result.0 in
    let was = c.index_mut.result.now in
    on_err_weaker c.reserve.result
    (λ (same : vec_capacity c.reserve.new.self ≡ vec_capacity was).
    let spare : vec_capacity c.reserve.new.self - vec_len c.reserve.new.self ≡ get_or (spare_of_each items) block 0 =
    omega (arith, same, c.reserve.ensures.len, spare_is items block was (within known) c.index_mut.ensures.value) in
    view_same _ _ (rows_unchanged known) (spare_set items block c.reserve.new.self ∙ ap (set (spare_of_each items) block) spare ∙ set-get_or (spare_of_each items) block 0) refl ∙ c.self.view_is)
    c.reserve.ensures.err
