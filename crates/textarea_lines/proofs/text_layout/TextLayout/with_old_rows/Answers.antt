use Rattle.std.proofs.Common.{◌≡◌, ◌∙◌, [], ap, subst, unwrap_or}
use Rattle.textarea_text.specs.Text.{lines_of}
use Rattle.textarea_screen_map.specs.LineRows.{AreRowsOf}
use Rattle.textarea_lines.specs.TextLayout.{TextAndLayout, origins_of}
use Rattle.textarea_lines.proofs.HeldOnce.{Changing, holds_once, layout_once, long_once, rows_once}
use Rattle.textarea_lines.proofs.text_layout.TextLayout.with_old_rows.Goals as goal
use Rattle.textarea_lines.proofs.text_layout.TextLayout.with_old_rows.Goals.{After-slice_of-origins}

steps : (c : After-slice_of-origins) → Changing (origins_of c.self.inside.origins) c.self.inside.settings c.self.inside.lines.items c.changed.inside.lines.items c.self.inside.size c.self.inside.count c.self.inside.map c.args.self.now c.args.changed
steps c = record {
  holds = c.self.invariant.contents;
  is = c.self.view_is;
  some = c.changed.invariant.contents.stored.some;
  text = ap (λ (l : TextAndLayout). l.text) c.changed.view_is;
  led = c.requires.changed;
}

-- where the changed lines come from
origins_are : (c : After-slice_of-origins) → c.slice_of-origins.result.now ≡ unwrap_or c.args.changed.layout.origins []
origins_are c = c.slice_of-origins.ensures ∙ ap (λ (l : TextAndLayout). unwrap_or l.layout.origins []) c.changed.view_is

pub map_at_once-requires-clause-long : goal.map_at_once-requires-clause-long
map_at_once-requires-clause-long c =
    long_once _ _ _ c.as_slice-lines.result.now _ _ _ _ _ c.slice_of-origins.result.now (steps (goal.at.map_at_once-requires-clause-long c).After-slice_of-origins) c.as_slice-lines.ensures.value (origins_are (goal.at.map_at_once-requires-clause-long c).After-slice_of-origins)

pub map_at_once-requires-clause-rows : goal.map_at_once-requires-clause-rows
map_at_once-requires-clause-rows c =
    rows_once _ _ _ c.as_slice-lines.result.now _ _ _ _ _ c.slice_of-origins.result.now (steps (goal.at.map_at_once-requires-clause-rows c).After-slice_of-origins) c.as_slice-lines.ensures.value (origins_are (goal.at.map_at_once-requires-clause-rows c).After-slice_of-origins)

pub invariant_of-result : goal.invariant_of-result
invariant_of-result c = record {
  contents = holds_once _ _ _ _ _ c.changed.inside.size _ c.in_ok-map.map _ _ (steps (goal.at.invariant_of-result c).After-slice_of-origins) c.requires.same c.changed.invariant.contents.stored c.in_ok-map.ensures.wrapping
      (subst (λ l. AreRowsOf c.self.inside.map.wrapping (lines_of l) c.in_ok-map.map.rows) c.as_slice-lines.ensures.value c.in_ok-map.ensures.rows.rows);
  measured = tt;
  cached = tt;
  place = c.changed.invariant.place;
  marked = c.changed.invariant.marked;
}

pub returns : goal.returns
returns c =
    layout_once _ _ _ c.as_slice-lines.result.now _ _ c.args.count c.map_at_once.new.count _ c.in_ok-map.map _ _ c.slice_of-origins.result.now (steps (goal.at.returns c).After-slice_of-origins) c.requires.same c.requires.count (origins_are (goal.at.returns c).After-slice_of-origins) c.in_ok-map.ensures.rows
