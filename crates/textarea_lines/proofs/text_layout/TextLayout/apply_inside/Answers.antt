use Rattle.std.proofs.Common.{◌∙◌, ap, arith, sym}
use Rattle.textarea_text.specs.Offset.{offset_at}
use Rattle.textarea_text.specs.Place.{Place}
use Rattle.textarea_text.specs.Text.{lines, lines_of}
use Rattle.textarea_lines.specs.TextLayout.{TextAndLayout}
use Rattle.textarea_lines.specs.Wrappings.{is_wrapped}
use Rattle.textarea_lines.proofs.Fronts.{same_before}
use Rattle.textarea_lines.proofs.Positions.{located_at}
use Rattle.textarea_lines.proofs.Stores.{lines_stored}
use Rattle.textarea_lines.proofs.WholeLines.{Inside, can_wrap, holds_inside, layout_inside}
use Rattle.textarea_lines.proofs.text_layout.TextLayout.apply_inside.Goals as goal
use Rattle.textarea_lines.proofs.text_layout.TextLayout.apply_inside.Goals.{After-as_slice-lines}

steps : (c : After-as_slice-lines) → Inside c.self.inside.settings c.self.inside.lines.items c.apply_inside.new.lines.items c.as_slice-lines.result.now c.self.inside.size c.args.size c.self.inside.map c.args.change c.start-row.result.0
steps c = record {
  holds = c.self.invariant.contents;
  whole = ap (λ (s : TextAndLayout). is_wrapped s.layout.settings) c.self.view_is ∙ c.requires.whole;
  none = c.requires.inside;
  fits = rw (← c.self.view_is) at c.requires.fits;
  now_some = omega (arith, c.in_ok-apply_inside.ensures.len, c.self.invariant.contents.stored.some, c.self.inside.lines.ok.0, c.apply_inside.new.lines.ok.0);
  now_is = c.in_ok-apply_inside.ensures.ok;
  borrowed_is = c.as_slice-lines.ensures.value;
  row_is = ap (λ (p : Place). p.0) c.start-row.ensures;
  after_is = rw (← c.self.view_is) at c.requires.size;
  limit = c.requires.limit;
}

pub apply_inside-requires : goal.apply_inside-requires
apply_inside-requires c =
    let place = c.args.change.place in
    record {
      inside = c.requires.inside;
      nonempty = omega (arith, c.self.invariant.contents.stored.some, c.self.inside.lines.ok.0);
      fits = rw (← c.self.view_is) at c.requires.fits;
      offset = c.offset_of-offset.ensures
          ∙ ap (offset_at (lines c.args.self.now.text)) c.start-row.ensures
          ∙ ap (λ (l : TextAndLayout). offset_at (lines l.text) place) (sym c.self.view_is)
          ∙ ap (λ rows. offset_at rows place) (lines_stored c.self.inside.lines.items c.self.invariant.contents.stored.some);
    }

pub put_whole_line-requires-clause-whole : goal.put_whole_line-requires-clause-whole
put_whole_line-requires-clause-whole c = can_wrap _ _ _ _ _ _ _ _ _ (steps (goal.at.put_whole_line-requires-clause-whole c).After-as_slice-lines)

pub invariant_of-self-2 : goal.invariant_of-self-2
invariant_of-self-2 c = record {
  contents = holds_inside _ _ _ _ _ _ _ _ _ _ _ (steps (goal.at.invariant_of-self-2 c).After-as_slice-lines) c.put_whole_line.ensures.rows c.put_whole_line.ensures.wrapping;
  measured = tt;
  cached = rw c.drop_measured.ensures tt;
  place =
      located_at c.apply_inside.new.lines.items c.new-self-inside.result c.start-row.result c.args.change.place c.offset_of-offset.result
      c.new-self-inside.ensures c.start-row.ensures c.in_ok-apply_inside.ensures.start c.in_ok-apply_inside.ensures.offset;
  marked = c.cut.ensures (lines_of c.self.inside.lines.items) (lines_of c.apply_inside.new.lines.items)
      (same_before _ _ _ _ _ _ _ _ _ c.start-row.result.1 (steps (goal.at.invariant_of-self-2 c).After-as_slice-lines) (ap (λ (p : Place). p.1) c.start-row.ensures)) c.self.invariant.marked;
}

pub returns-clause-ok : goal.returns-clause-ok
returns-clause-ok c =
    rw (← c.self.view_is) (layout_inside _ _ _ _ _ _ _ _ _ _ _ _ (steps (goal.at.returns-clause-ok c).After-as_slice-lines) c.put_whole_line.ensures.rows c.put_whole_line.ensures.counted)
