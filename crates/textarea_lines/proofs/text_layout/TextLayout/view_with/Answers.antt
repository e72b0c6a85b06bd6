use Rattle.std.proofs.lemmas.Grind.{common_steps}
use Rattle.std.proofs.Common.{arith, ◌≡◌, ◌∙◌, ap, subst, sym}
use Rattle.textarea_lines.specs.TextLayout.{at_width, origins_of, with_settings}
use Rattle.textarea_screen_map.specs.BorrowedLines.{BorrowedRows}
use Rattle.textarea_lines.specs.View.{IsPrepared, IsViewOf, PreparedView}
use Rattle.textarea_screen_map.specs.Map.{MapView}
use Rattle.textarea_lines.proofs.Widths.{Holds, count_at, holds_at, is_borrowed, is_view, map_at}
use Rattle.textarea_lines.proofs.text_layout.TextLayout.view_with.Goals as goal
use Rattle.textarea_lines.proofs.text_layout.TextLayout.view_with.Goals.{in-Some, in-None}

-- the borrowed map is the one at the prepared width
map_is : (c : goal.After-as_slice) → map_at c.prepared.inside.wraps c.self.inside.map ≡ c.match-prepared.map.now
map_is c = elim c.match-prepared.branch [
  | in-Some w ↦ ap (λ o. map_at o c.self.inside.map) w.in-Some.is ∙ sym (ap (λ m. m.now) w.map-is)
  | in-None w ↦ ap (λ o. map_at o c.self.inside.map) w.in-None.is ∙ sym (ap (λ m. m.now) w.map-is)
]

-- the lines are stored with its rows
contents :
    (c : goal.After-as_slice) → Holds (origins_of c.self.inside.origins) (at_width c.args.self.now c.prepared.inside.inner_width) c.self.inside.lines.items c.self.inside.size
    (count_at c.prepared.inside.wraps c.self.inside.count) c.match-prepared.map.now
    (with_settings c.args.self.now (at_width c.args.self.now c.prepared.inside.inner_width))
contents c =
    let inside = c.self.inside in
    let text_layout = c.args.self.now in
    let width = c.prepared.inside.inner_width in
    let wraps = c.prepared.inside.wraps in
    let ready : IsPrepared text_layout (record { inner_width = width; wraps = wraps }) = subst (λ (p : PreparedView). IsPrepared text_layout p) (sym c.prepared.view_is) c.requires in
    subst (λ (m : MapView). Holds (origins_of inside.origins) (at_width text_layout width) inside.lines.items inside.size (count_at wraps inside.count) m (with_settings text_layout (at_width text_layout width))) (map_is c)
    (holds_at inside.settings inside.lines.items inside.size inside.count inside.map text_layout width wraps (record { rows = c.self.invariant.contents; is = c.self.view_is }) ready.wraps)

pub new-requires-clause-rows : goal.new-requires-clause-rows
new-requires-clause-rows c = grind (arith, common_steps, is_borrowed, contents c)

pub returns : goal.returns
returns c =
    let inside = c.self.inside in
    let text_layout = c.args.self.now in
    let text_layout_of = is_view _ inside.lines.items c.as_slice.result.now inside.size _ c.match-prepared.map.now _ (contents c.before) c.as_slice.ensures.value in
    subst (λ (p : PreparedView). IsViewOf (with_settings text_layout (at_width text_layout p.inner_width)) c.new.result) c.prepared.view_is
    (subst (λ (v : BorrowedRows). IsViewOf (with_settings text_layout (at_width text_layout c.prepared.inside.inner_width)) v) (sym c.new.ensures) text_layout_of)
