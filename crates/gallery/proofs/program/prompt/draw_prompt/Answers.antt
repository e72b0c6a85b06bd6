use Rattle.std.proofs.Common.{◌≡◌, ℕ, ◌<◌, inl, sym, subst, arith}
use Rattle.textarea_view.specs.Measure.{width_inside}
use Rattle.tui_textarea.specs.Drawing.{IsRendered}
use Rattle.tui_textarea.specs.Measure.{IsMeasured}
use Rattle.tui_textarea.specs.State.{State}
use Rattle.gallery.proofs.program.prompt.draw_prompt.Goals as goal

pub returns : goal.returns
returns c =
    let old = c.args.text.now in
    let new = c.render.new.self in
    let screen = c.args.screen in
    let area = c.new-area.result in
    let measure = c.in_ok-height.field-0 in
    let width : area.width ≡ screen.width = omega (arith, c.new-area.ensures.width, screen.right) in
    let rendered : IsRendered old area new = subst (λ (s : State). IsRendered s area new) c.in_ok-height.ensures.same c.in_ok-render.ensures.ok in
    record {
      height = record {
        measure = measure;
        measured = c.in_ok-height.ensures.measured;
        height = omega (arith, c.new-area.ensures.height, c.min-height.ensures, screen.bottom);
        bottom = omega (arith, c.new-area.ensures.height, c.new-area.ensures.y, c.min-height.ensures, screen.bottom);
        rows = λ view wide is_view displayed.
            c.measured_as_drawn.ensures.rows old new area measure view (inl (subst (λ (w : ℕ). IsMeasured old w measure) (sym width) c.in_ok-height.ensures.measured))
            rendered (subst (λ (w : ℕ). 0 < width_inside old.surround.block w) (sym width) wide) is_view displayed;
      };
    }
