use Rattle.std.proofs.Common.{◌∙◌, ap, subst, sym}
use Rattle.textarea_lines.specs.TextLayout.{TextAndLayout, origins_of}
use Rattle.textarea_lines.specs.View.{IsWholeWrap}
use Rattle.textarea_lines.specs.Wrappings.{wrapping_for}
use Rattle.textarea_lines.proofs.Changes.{Reviewing, test_is}
use Rattle.textarea_lines.proofs.Widths.{wrap_for}
use Rattle.textarea_lines.proofs.text_layout.TextLayout.wrap_for.Goals as goal
use Rattle.textarea_lines.proofs.text_layout.TextLayout.wrap_for.Goals.{After-is_same}

steps : (c : After-is_same) → Reviewing (origins_of c.self.inside.origins) c.self.inside.settings c.args.settings c.self.inside.lines.items c.self.inside.count c.self.inside.map.rows c.args.self.now c.wrapping-before.result c.wrapping_for-after.result
steps c = record {
  some = c.self.invariant.contents.stored.some;
  is = c.self.view_is;
  before_is = c.wrapping-before.ensures ∙ c.self.invariant.contents.wrapping_is;
  after_is = c.wrapping_for-after.ensures ∙ ap (wrapping_for c.args.settings) (c.len.ensures ∙ c.self.inside.lines.ok.0);
}

pub returns-then-is_same-clause-wraps : goal.returns-then-is_same-clause-wraps
returns-then-is_same-clause-wraps c =
    test_is _ _ _ _ _ _ _ _ (steps (goal.at.returns-then-is_same-clause-wraps c).After-is_same) ∙ sym c.is_same.ensures ∙ c.if-is_same.true

pub returns-in_err-wraps-clause-no_memory : goal.returns-in_err-wraps-clause-no_memory
returns-in_err-wraps-clause-no_memory c = λ yes.
    let test = test_is _ _ _ _ _ _ _ _ (steps (goal.at.returns-in_err-wraps-clause-no_memory c).After-is_same) in
    absurd (cc (test, yes, c.is_same.ensures, c.if-is_same.false))

pub returns-in-Some-clause-wraps : goal.returns-in-Some-clause-wraps
returns-in-Some-clause-wraps c =
    wrap_for _ _ _ _ _ _ _ _ _ (steps (goal.at.returns-in-Some-clause-wraps c).After-is_same) (sym c.is_same.ensures ∙ c.if-is_same.false) c.in-Some.ensures.cached

pub returns-clause-wraps : goal.returns-clause-wraps
returns-clause-wraps c =
    wrap_for _ _ _ _ _ _ _ _ _ (steps (goal.at.returns-clause-wraps c).After-is_same) (sym c.is_same.ensures ∙ c.if-is_same.false)
    (subst (λ (l : TextAndLayout). IsWholeWrap l c.wrapping_for-after.result c.in_ok-wraps.wraps) c.take_measured.ensures.same c.in_ok-wraps.ensures)
