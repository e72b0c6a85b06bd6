use Rattle.std.proofs.Common.{ap, arith}
use Rattle.std.proofs.lemmas.Grind.{common_steps}
use Rattle.textarea_blocks.specs.Shifted.{NumbersView}
use Rattle.textarea_blocks.proofs.Shifting.{AreJoined, joined}
use Rattle.textarea_blocks.proofs.blocks.numbers.Numbers.combine.Goals as goal
use Rattle.textarea_blocks.proofs.blocks.numbers.Numbers.combine.Goals.{After-saturating_sub-more}

both : (c : After-saturating_sub-more) → AreJoined c.self.inside.items.items c.args.self.now.numbers c.args.from c.args.gone c.args.come c.saturating_sub-less.result c.saturating_sub-more.result
both c =
    let inside = c.self.inside in
    joined inside.items.items _ c.args.from inside.less inside.more c.args.gone c.args.come _ _
    (rw c.if-from-self.false (ap (λ (v : NumbersView). v.numbers) c.self.view_is)) (rw c.if-from-self.false c.self.invariant) c.requires
    (grind (arith, common_steps)) (grind (arith, common_steps))

pub invariant_of-self : goal.invariant_of-self
invariant_of-self c = rw (← c.if-from-self.false) (both (goal.at.invariant_of-self c).After-saturating_sub-more).can

pub returns-clause-shifted : goal.returns-clause-shifted
returns-clause-shifted c = λ done. rw (← c.if-from-self.false) (both (goal.at.returns-clause-shifted c).After-saturating_sub-more).shifted
