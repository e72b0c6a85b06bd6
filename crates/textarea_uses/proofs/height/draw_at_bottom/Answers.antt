use Rattle.std.proofs.Common.{◌≡◌, ◌∙◌, ℕ, ◌<◌, ap, inl, min, sym, subst, arith}
use Rattle.textarea_data.specs.declared.measure.TextAreaMeasure.{TextAreaMeasure}
use Rattle.textarea_screen.specs.Block.{BlockView}
use Rattle.textarea_view.specs.Measure.{width_inside}
use Rattle.std.specs.Prelude.{Option}
use Rattle.tui_textarea.specs.Drawing.{IsRendered}
use Rattle.tui_textarea.specs.Measure.{IsMeasured}
use Rattle.tui_textarea.specs.State.{State}
use Rattle.textarea_blocks.specs.Sums.{row_total}
use Rattle.textarea_uses.proofs.Heights.{room_for}
use Rattle.textarea_uses.proofs.height.draw_at_bottom.Goals as goal

pub returns : goal.returns
returns c =
    let old = c.args.text.now in
    let new = c.render.new.self in
    let screen = c.args.screen in
    let area = c.new-area.result in
    let measure = c.in_ok-height.field-0 in
    let measured = c.in_ok-height.ensures.measured in
    let width : area.width ≡ screen.width = omega (arith, c.new-area.ensures.width, screen.right) in
    let height : area.height ≡ min measure.preferred_rows screen.height = omega (arith, c.new-area.ensures.height, c.min-height.ensures, screen.bottom) in
    let rendered : IsRendered old area new = subst (λ (s : State). IsRendered s area new) c.in_ok-height.ensures.same c.in_ok-render.ensures.ok in
    let preferred = ap (λ (m : TextAreaMeasure). m.preferred_rows) measured.measure_is in
    let content = ap (λ (m : TextAreaMeasure). m.content_rows) measured.measure_is in
    record {
      bottom = omega (arith, c.new-area.ensures.height, c.new-area.ensures.y, c.min-height.ensures, screen.bottom);
      rows = λ view none wide is_view displayed fits within.
          let some : 0 < width_inside old.surround.block area.width =
          subst (λ (w : ℕ). 0 < width_inside old.surround.block w) (sym width) (subst (λ (b : Option BlockView). 0 < width_inside b screen.width) (sym none) wide) in
          let drawn = c.measured_as_drawn.ensures.rows old new area measure view (inl (subst (λ (w : ℕ). IsMeasured old w measure) (sym width) measured)) rendered some is_view displayed in
          room_for old.surround (row_total view.rows) _ measure.preferred_rows screen.height area.height none (sym content ∙ drawn) preferred height (omega (arith, screen.bottom)) fits within;
    }
