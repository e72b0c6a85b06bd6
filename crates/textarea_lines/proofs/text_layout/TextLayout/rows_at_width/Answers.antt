use Rattle.std.proofs.Common.{◌∙◌, ap, length, sym}
use Rattle.textarea_lines.specs.TextLayout.{origins_of}
use Rattle.textarea_lines.specs.Wrappings.{wrapping_for}
use Rattle.textarea_lines.proofs.Measuring.{Measuring, counted_from_scratch, counted_as_cached, counted_as_measured, counted_in_text, same_as_cached}
use Rattle.textarea_lines.proofs.text_layout.TextLayout.rows_at_width.Goals as goal
use Rattle.textarea_lines.proofs.text_layout.TextLayout.rows_at_width.Goals.{After-wrapping}

steps :
    (c : After-wrapping)
    → Measuring (origins_of c.self.inside.origins) c.self.inside.settings c.self.inside.lines.items c.as_slice-lines.result.now c.self.inside.size c.self.inside.count c.args.inner_width c.self.inside.map c.args.self.now c.wrapping_at-wrapping.result c.wrapping.result
steps c = record {
  contents = c.self.invariant.contents;
  is = c.self.view_is;
  borrowed_is = c.as_slice-lines.ensures.value;
  wrapping_is = c.wrapping_at-wrapping.ensures;
  now_is = c.wrapping.ensures ∙ c.self.invariant.contents.wrapping_is ∙ ap (λ t. wrapping_for c.self.inside.settings (length t)) (sym c.as_slice-lines.ensures.value);
}

pub returns-then-is_same-clause-rows : goal.returns-then-is_same-clause-rows
returns-then-is_same-clause-rows c =
    let known = steps (goal.at.returns-then-is_same-clause-rows c).After-wrapping in
    counted_in_text _ _ _ _ _ _ _ _ _ _ _ known (counted_as_cached _ _ _ _ _ _ _ _ _ _ _ known (sym c.is_same.ensures ∙ c.if-is_same.true) c.row_count.ensures)

pub returns-then-is_measured-clause-rows : goal.returns-then-is_measured-clause-rows
returns-then-is_measured-clause-rows c =
    counted_in_text _ _ _ _ _ _ _ _ _ _ _ (steps (goal.at.returns-then-is_measured-clause-rows c).After-wrapping)
    (counted_as_measured _ _ _ _ c.in-Some.measured c.as_slice-lines.ensures.value (sym c.is_same-is_measured.ensures ∙ c.if-is_measured.true) c.in-Some.is c.self.invariant.measured)

pub returns-in_err-rows-clause-no_memory : goal.returns-in_err-rows-clause-no_memory
returns-in_err-rows-clause-no_memory c = λ yes.
    let test = same_as_cached _ _ _ _ _ _ _ _ _ _ (steps (goal.at.returns-in_err-rows-clause-no_memory c).After-wrapping) in
    absurd (cc (test, yes, c.is_same.ensures, c.if-is_same.false))

pub returns-clause-rows : goal.returns-clause-rows
returns-clause-rows c = counted_from_scratch _ _ _ _ _ _ _ _ _ _ _ (steps (goal.at.returns-clause-rows c).After-wrapping) c.in_ok-rows.ensures.rows
