use Rattle.std.proofs.Common.{◌≡◌, ◌∙◌, ap, subst, sym}
use Rattle.textarea_ranges.specs.Prelude.{Place, Backward, IsWidened, moved_out, widened}
use Rattle.textarea_ranges.proofs.LookupLemmas.{IsWidened-widened}
use Rattle.textarea_ranges.proofs.lookup.widen.Goals as goal

pub returns-clause-whole : goal.returns-clause-whole
returns-clause-whole c =
    let is : (c.move_out-start.result, c.move_out-end.result) ≡ widened c.args.ranges.now c.args.from c.args.to =
    ap (λ (p : Place). (p, c.move_out-end.result)) c.move_out-start.ensures.value ∙ ap (λ (p : Place). (moved_out c.args.ranges.now c.args.from Backward, p)) c.move_out-end.ensures.value in
    λ rows valid up. subst (IsWidened c.args.ranges.now c.args.from c.args.to) (sym is) (IsWidened-widened rows c.args.ranges.now c.args.from c.args.to valid up)
