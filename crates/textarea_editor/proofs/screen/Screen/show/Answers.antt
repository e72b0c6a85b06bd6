use Rattle.std.proofs.Common.{◌∙◌, ap, refl, subst, sym}
use Rattle.std.proofs.lemmas.Result.{on_ok_weaker}
use Rattle.textarea_editor.proofs.Frames.{frame_shown, on_ok_both}
use Rattle.textarea_editor.proofs.screen.Screen.show.Goals as goal
use Rattle.textarea_editor.specs.Editor.{IsScreenArea}
use Rattle.textarea_editor.specs.TerminalScreen.{IsFitted, ScreenState}
use Rattle.textarea_screen.specs.declared.screen.rect.Rect.{Rect}
use Rattle.textarea_terminal.specs.Painter.{painter_area}

pub returns-clause-shown : goal.returns-clause-shown
returns-clause-shown c =
    let ready = subst (λ (screen : ScreenState). IsFitted c.args.self.now c.screen_area.result screen) (sym c.self.view_is) c.in_ok-fit.ensures.ok in
    let drawn = c.in_ok-frame.ensures in
    on_ok_both c.paint.result
    (λ shows wrote. frame_shown c.args.self.now _ _ c.screen_area.result c.args.editor.now c.draw.new.self c.in_ok-frame.frame c.args.out.now.items c.paint.new.out.items ready
    (record { text = drawn.text; asked = drawn.asked; caret = drawn.caret }) refl refl c.paint.ensures.area c.paint.ensures.colors shows
    (record { wrote = wrote; unchanged = c.paint.ensures.unchanged }))
    c.paint.ensures.painted c.paint.ensures.wrote

pub returns-clause-area : goal.returns-clause-area
returns-clause-area c =
    let same = c.paint.ensures.area ∙ ap (λ (screen : ScreenState). painter_area screen.painter) c.self.view_is ∙ c.in_ok-fit.ensures.ok.area_is in
    on_ok_weaker c.paint.result (λ shows. subst (λ (area : Rect). IsScreenArea c.args.editor.now area) (sym same) c.screen_area.ensures) c.paint.ensures.painted
