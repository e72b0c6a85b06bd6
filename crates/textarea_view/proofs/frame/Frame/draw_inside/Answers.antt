use Rattle.std.proofs.Common.{◌≡◌, ◌∙◌, ap, subst, sym, take}
use Rattle.textarea_screen.proofs.ChangeLemmas.{KeepsOutside-then}
use Rattle.textarea_view.specs.Prelude.{KeepsOutside, area_of, contains, row_area, text_view, Rect, RowArea, rows_above_end, in_placeholder_style, placeholder_lines}
use Rattle.textarea_view.specs.Frame.{FrameState}
use Rattle.textarea_view.specs.Scene.{SceneState}
use Rattle.textarea_view.proofs.Layers.{either, filled_by_placeholder, lines_outside, on_ok, placeholder_drawn, styled_inside}
use Rattle.textarea_view.proofs.frame.Frame.draw_inside.Goals as goal
use Rattle.textarea_view.proofs.frame.Frame.draw_inside.Goals.{After-shows_placeholder}

-- the frame, as the contract sees it
abbrev frame : (c : After-shows_placeholder) → FrameState
frame c = record { scene = c.self.inside.scene; surround = c.self.inside.surround.now; mode = c.self.inside.mode; is_empty = c.self.inside.is_empty }

rows_are : (c : After-shows_placeholder) → c.row_area-rows.result ≡ row_area c.self.inside.scene.look c.args.inner c.args.viewport.column
rows_are c = c.row_area-rows.ensures ∙ ap (λ (s : SceneState). row_area s.look c.args.inner c.args.viewport.column) c.scene.view_is

area_is : (c : After-shows_placeholder) → c.row_area-rows.result.area ≡ c.args.inner
area_is c = ap (λ (rows : RowArea). rows.area) c.row_area-rows.ensures

pub returns-then-shows_placeholder-clause-ok : goal.returns-then-shows_placeholder-clause-ok
returns-then-shows_placeholder-clause-ok c =
    let shown = (goal.at.returns-then-shows_placeholder-clause-ok c).After-shows_placeholder in
    rw (← c.self.view_is) (on_ok c.draw_placeholder.result c.draw_placeholder.ensures.ok
    (λ change. filled_by_placeholder (frame shown) c.args.viewport c.args.inner c.args.buffer.now c.draw_placeholder.new.buffer
    (rw (← c.self.view_is) at (sym c.shows_placeholder.ensures ∙ c.if-shows_placeholder.true))
    (placeholder_drawn c.self.inside.scene.look c.self.inside.surround.now.placeholder c.args.viewport c.args.inner c.args.buffer.now c.draw_placeholder.new.buffer c.row_area-rows.result
    (text_view c.placeholder-placeholder.result.now) c.cursor_cell.result
    (rows_are shown) c.placeholder-placeholder.ensures c.cursor_cell.ensures change)))

pub returns-then-shows_placeholder-clause-outside : goal.returns-then-shows_placeholder-clause-outside
returns-then-shows_placeholder-clause-outside c =
    let same = area_is (goal.at.returns-then-shows_placeholder-clause-outside c).After-shows_placeholder in
    either c.draw_placeholder.result c.draw_placeholder.ensures.ok c.draw_placeholder.ensures.err
    (lines_outside (in_placeholder_style c.row_area-rows.result (text_view c.placeholder-placeholder.result.now).style) c.args.inner
    (take (rows_above_end c.row_area-rows.result.area (area_of c.args.buffer.now)) (placeholder_lines c.cursor_cell.result (text_view c.placeholder-placeholder.result.now).lines)) c.args.buffer.now c.draw_placeholder.new.buffer same)
    (subst (λ (a : Rect). KeepsOutside (contains a) c.args.buffer.now c.draw_placeholder.new.buffer) same)

pub returns-clause-outside : goal.returns-clause-outside
returns-clause-outside c =
    let same = area_is (goal.at.returns-clause-outside c).After-shows_placeholder in
    KeepsOutside-then (styled_inside c.args.inner c.scene.inside.look.style c.args.buffer.now c.set_style.new.self c.set_style.ensures)
    (either c.draw.result c.draw.ensures.ok c.draw.ensures.err
    (λ h. lines_outside c.row_area-rows.result c.args.inner h.0 c.set_style.new.self c.draw.new.buffer same h.2)
    (subst (λ (a : Rect). KeepsOutside (contains a) c.set_style.new.self c.draw.new.buffer) same))
