use Rattle.std.proofs.Common.{◌∙◌}
use Rattle.textarea_text.specs.Text.{lines_of}
use Rattle.textarea_text.proofs.Copies.{lines_copied}
use Rattle.textarea_lines.proofs.Positions.{located_copied}
use Rattle.textarea_lines.proofs.Stores.{holds_copied, layout_copied}
use Rattle.textarea_lines.proofs.text_layout.TextLayoutClone.clone.Goals as goal

pub invariant_of-result : goal.invariant_of-result
invariant_of-result c =
    let inside = c.self.inside in
    let copies = c.in_ok-lines.lines.items in
    let same = lines_copied inside.lines.items copies c.in_ok-lines.ensures.cases.0 in
    record {
      contents = holds_copied inside.settings inside.lines.items copies inside.size inside.map c.in_ok-map.map c.self.invariant.contents same c.in_ok-map.ensures.cases;
      measured = rw same c.self.invariant.measured;
      cached = tt;
      place = located_copied inside.lines.items copies inside.found _ same c.new-found.ensures c.self.invariant.place;
      marked = c.new-marks.ensures (lines_of copies);
    }

pub returns : goal.returns
returns c =
    let inside = c.self.inside in
    let copies = c.in_ok-lines.lines.items in
    record {
      cases =
          layout_copied inside.settings inside.lines.items copies inside.count c.in_ok-count.count inside.map.rows c.in_ok-map.map.rows
          (lines_copied inside.lines.items copies c.in_ok-lines.ensures.cases.0) c.in_ok-count.ensures.cases c.in_ok-map.ensures.cases.0 c.in_ok-origins.ensures ∙
          c.self.view_is;
    }
