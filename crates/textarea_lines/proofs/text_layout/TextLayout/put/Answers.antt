use Rattle.std.proofs.Common.{◌∙◌, Option, subst, sym}
use Rattle.std.specs.Option.{IfSome}
use Rattle.textarea_text.specs.Text.{lines_of}
use Rattle.textarea_screen_map.specs.LineMarks.{AreMarksOf}
use Rattle.textarea_screen_map.specs.Map.{IsRowCount}
use Rattle.textarea_lines.specs.declared.rewrap.WrappedRows.{WrappedRows}
use Rattle.textarea_lines.specs.declared.text_layout.TextLayout.TheInside.{Inside}
use Rattle.textarea_lines.specs.declared.settings.LayoutSettings.{LayoutSettings}
use Rattle.textarea_lines.specs.TextLayout.{TextAndLayout, origins_of, with_settings}
use Rattle.textarea_lines.specs.Stored.{IsPlaceAtByte, IsNextWrap}
use Rattle.textarea_lines.specs.View.{IsRewrappedIfOther}
use Rattle.textarea_lines.proofs.Widths.{Holds, holds_wrap, holds_same_whole, holds_same_wrapped}
use Rattle.textarea_lines.proofs.text_layout.TextLayout.put.Goals as goal
use Rattle.textarea_lines.proofs.text_layout.TextLayout.put.Goals.{in-Some, in-None+else-not-is_wrapped, in-None+then-not-is_wrapped}

-- the lines as they are stored under the settings, and what was measured of them
record HoldsAll (inside : Inside) (settings : LayoutSettings) (text_layout : TextAndLayout) : Type 0 where
  pub rows : Holds (origins_of inside.origins) settings inside.lines.items inside.size inside.count inside.map (with_settings text_layout settings)
  pub measured : IfSome inside.measured (λ last. IsRowCount last.wrapping (lines_of inside.lines.items) last.rows)
  pub cached : IfSome inside.cached (IsNextWrap inside.count inside.lines.items)
  pub place : IsPlaceAtByte inside.lines.items inside.found
  pub marked : AreMarksOf (lines_of inside.lines.items) inside.marks

pub invariant_of-self : goal.invariant_of-self
invariant_of-self c =
    let inside = c.self.inside in
    let items = inside.lines.items in
    let settings = c.args.settings in
    let text_layout = c.args.self.now in
    let before : Holds (origins_of inside.origins) inside.settings items inside.size inside.count inside.map text_layout = record { rows = c.self.invariant.contents; is = c.self.view_is } in
    let known : HoldsAll c.match-wraps.self-inside settings text_layout =
    elim c.match-wraps.branch [
      | in-Some w ↦
          let wraps = subst (λ (o : Option WrappedRows). IsRewrappedIfOther text_layout settings o) w.in-Some.is c.requires in
          subst (λ (v : Inside). HoldsAll v settings text_layout) (sym w.self-inside-is)
          (record {
            rows = holds_wrap inside.settings settings items inside.size inside.count inside.map text_layout w.in-Some.wraps before wraps;
            measured = c.self.invariant.measured;
            cached = rw w.drop_measured.ensures tt;
            place = c.self.invariant.place;
            marked = c.self.invariant.marked;
          })
      | in-None+else-not-is_wrapped w ↦
          let stays = subst (λ (o : Option WrappedRows). IsRewrappedIfOther text_layout settings o) w.in-None.is c.requires in
          subst (λ (v : Inside). HoldsAll v settings text_layout) (sym w.self-inside-is)
          (record {
            rows = holds_same_wrapped inside.settings settings items inside.size inside.count inside.map text_layout before (sym w.is_wrapped.ensures ∙ w.if-not-is_wrapped.false) stays;
            measured = c.self.invariant.measured;
            cached = c.self.invariant.cached;
            place = c.self.invariant.place;
            marked = c.self.invariant.marked;
          })
      | in-None+then-not-is_wrapped w ↦
          let stays = subst (λ (o : Option WrappedRows). IsRewrappedIfOther text_layout settings o) w.in-None.is c.requires in
          let set = w.set_tab_len.ensures in
          subst (λ (v : Inside). HoldsAll v settings text_layout) (sym w.self-inside-is)
          (record {
            rows =
                holds_same_whole inside.settings settings items inside.size inside.count inside.map w.set_tab_len.new.map text_layout before
                (sym w.is_wrapped.ensures ∙ w.if-not-is_wrapped.true) stays set.same set.wrapping
                (set.right (lines_of items) c.self.invariant.contents.text_layout);
            measured = c.self.invariant.measured;
            cached = c.self.invariant.cached;
            place = c.self.invariant.place;
            marked = c.self.invariant.marked;
          })
    ] in
    record { contents = known.rows.rows; measured = known.measured; cached = known.cached; place = known.place; marked = known.marked }
