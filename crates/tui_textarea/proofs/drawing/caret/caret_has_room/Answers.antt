use Rattle.std.proofs.Common.{ap, arith, subst, sym, ◌<◌, ◌^◌}
use Rattle.tui_textarea.specs.DrawingPrelude.{size_limit, DocumentState, LayoutSettings, weight}
use Rattle.textarea_text.proofs.Sizes.{size_of_text}
use Rattle.tui_textarea.proofs.drawing.caret.caret_has_room.Goals as goal

pub returns : goal.returns
returns c = λ old new area same rendered.
    let limit : weight c.args.document.now.text < size_limit =
    omega (arith, size_of_text c.lines.result.now c.lines.ensures.some, c.lines.ensures.limit, ap weight c.lines.ensures.value) in
    let tabs : c.args.document.now.layout.settings.tab_len < 2 ^ 8 = omega (arith, ap (λ (s : LayoutSettings). s.tab_len) c.layout_settings.ensures, c.layout_settings.type_inv.1) in
    c.caret_is_visible.ensures old new area rendered
    (subst (λ (d : DocumentState). weight d.text < size_limit) (sym same) limit)
    (subst (λ (d : DocumentState). d.layout.settings.tab_len < 2 ^ 8) (sym same) tabs)
