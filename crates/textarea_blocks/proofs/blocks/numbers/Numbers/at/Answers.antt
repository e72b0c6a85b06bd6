use Rattle.std.proofs.lemmas.Grind.{common_steps}
use Rattle.std.proofs.Common.{◌≡◌, ◌<◌, arith, get_or, length}
use Rattle.textarea_blocks.proofs.InBlocks.{item_is}
use Rattle.textarea_blocks.proofs.Shifting.{length-turned, turned_above, shifted_after}
use Rattle.textarea_blocks.proofs.blocks.numbers.Numbers.at.Goals as goal
use Rattle.textarea_blocks.proofs.blocks.numbers.Numbers.at.Goals.{After-index-item}

pub index-item-requires : goal.index-item-requires
index-item-requires c = grind (arith, common_steps, length-turned)

there : (c : After-index-item) → c.args.block < length c.self.inside.items.items
there c = grind (arith, common_steps, length-turned)

item : (c : After-index-item) → c.index-item.result.now ≡ get_or c.self.inside.items.items c.args.block 0
item c = item_is c.self.inside.items.items c.args.block c.index-item.result.now 0 (there c) c.index-item.ensures

pub returns-then-block-self : goal.returns-then-block-self
returns-then-block-self c = grind (arith, common_steps, item, turned_above)

pub overflow_add-result : goal.overflow_add-result
overflow_add-result c =
    let known = (goal.at.overflow_add-result c).After-index-item in
    omega (arith, item known, c.self.invariant.small c.args.block (omega (arith, c.if-block-self.false)) (there known))

pub overflow_sub-result : goal.overflow_sub-result
overflow_sub-result c =
    let known = (goal.at.overflow_sub-result c).After-index-item in
    omega (arith, item known, c.self.invariant.enough c.args.block (omega (arith, c.if-block-self.false)) (there known))

pub returns : goal.returns
returns c = grind (arith, common_steps, item, shifted_after, there)
