use Rattle.std.proofs.Common.{◌≡◌, ◌∙◌, ap, ap₂, length, subst, sym}
use Rattle.std.specs.Result.{IfOk}
use Rattle.textarea_lines.specs.TextLayout.{TextAndLayout, origins_of}
use Rattle.textarea_lines.specs.Wrappings.{is_same_wrapping, wrapping_for}
use Rattle.textarea_lines.proofs.HeldOnce.{Changing, scratch_once, test_once}
use Rattle.textarea_lines.proofs.text_layout.TextLayout.wrapped_once.Goals as goal
use Rattle.textarea_lines.proofs.text_layout.TextLayout.wrapped_once.Goals.{After-is_same}

steps : (c : After-is_same) → Changing (origins_of c.self.inside.origins) c.self.inside.settings c.self.inside.lines.items c.changed.inside.lines.items c.self.inside.size c.self.inside.count c.self.inside.map c.args.self.now c.args.changed
steps c = record {
  holds = c.self.invariant.contents;
  is = c.self.view_is;
  some = c.changed.invariant.contents.stored.some;
  text = ap (λ (l : TextAndLayout). l.text) c.changed.view_is;
  led = c.requires;
}

-- the test is whether the stored lines are wrapped as before
tested : (c : After-is_same) → is_same_wrapping (wrapping_for c.self.inside.settings (length c.changed.inside.lines.items)) c.self.inside.map.wrapping ≡ c.is_same.result
tested c =
    ap₂ is_same_wrapping (sym (c.wrapping_for-wrapping.ensures ∙ ap (wrapping_for c.self.inside.settings) (c.len.ensures ∙ c.changed.inside.lines.ok.0))) (sym c.wrapping.ensures) ∙ sym c.is_same.ensures

pub returns-then-not-is_same : goal.returns-then-not-is_same
returns-then-not-is_same c =
    let at = (goal.at.returns-then-not-is_same c).After-is_same in
    subst (λ (l : TextAndLayout). IfOk c.wrap_lines.result (λ (made : TextAndLayout). made ≡ l))
    (scratch_once _ _ _ _ _ c.in_ok-count.count _ _ _ _ (steps at) (test_once _ _ _ _ _ _ _ _ (steps at) ∙ tested at ∙ c.if-not-is_same.true) c.in_ok-count.ensures.cases c.into_lines.ensures.text)
    c.wrap_lines.ensures

pub with_old_rows-requires-clause-same : goal.with_old_rows-requires-clause-same
with_old_rows-requires-clause-same c =
    let at = (goal.at.with_old_rows-requires-clause-same c).After-is_same in test_once _ _ _ _ _ _ _ _ (steps at) ∙ tested at ∙ c.if-not-is_same.false
