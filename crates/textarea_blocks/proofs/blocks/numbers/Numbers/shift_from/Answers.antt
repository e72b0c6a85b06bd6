use Rattle.std.proofs.Common.{◌≡◌, ◌∙◌, arith}
use Rattle.std.proofs.lemmas.Grind.{common_steps}
use Rattle.textarea_blocks.proofs.Shifting.{AreJoined, joined, not_turned}
use Rattle.textarea_blocks.proofs.blocks.numbers.Numbers.shift_from.Goals as goal
use Rattle.textarea_blocks.proofs.blocks.numbers.Numbers.shift_from.Goals.{After-saturating_sub-more}

-- only the new difference, once the old one is added to the items
one : (c : After-saturating_sub-more) → AreJoined c.move_numbers.new.numbers.items c.args.self.now.numbers c.args.from c.args.gone c.args.come c.saturating_sub-less.result c.saturating_sub-more.result
one c =
    let now = c.move_numbers.new.numbers.items in
    let same : now ≡ c.args.self.now.numbers = grind (arith, common_steps) in
    joined now _ c.args.from 0 0 c.args.gone c.args.come _ _ (not_turned c.args.from now ∙ same)
    (record { enough = λ k after there. omega arith; small = λ k after there. grind (arith, common_steps, c.requires.small k) }) c.requires
    (omega arith) (omega arith)

pub invariant_of-self : goal.invariant_of-self
invariant_of-self c = (one (goal.at.invariant_of-self c).After-saturating_sub-more).can

pub returns-clause-shifted : goal.returns-clause-shifted
returns-clause-shifted c = (one (goal.at.returns-clause-shifted c).After-saturating_sub-more).shifted
