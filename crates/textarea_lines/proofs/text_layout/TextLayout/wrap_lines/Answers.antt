use Rattle.std.proofs.Common.{◌∙◌, ◌<◌, List, String, ap, arith, length, subst}
use Rattle.std.specs.declared.alloc.Global.{Global}
use Rattle.textarea_text.specs.Size.{size_of}
use Rattle.textarea_text.specs.Text.{lines_of}
use Rattle.textarea_screen_map.specs.LineRows.{AreRowsOf}
use Rattle.textarea_lines.specs.Wrappings.{wrapping_for}
use Rattle.textarea_lines.proofs.Changes.{wrapped_new}
use Rattle.textarea_lines.proofs.Positions.{located_first}
use Rattle.textarea_lines.proofs.text_layout.TextLayout.wrap_lines.Goals as goal

pub invariant_of-result : goal.invariant_of-result
invariant_of-result c =
    let items = c.args.lines.items in
    let map = c.in_ok-map.map in
    let some : 0 < length items = omega (arith, c.requires, c.args.lines.ok.0) in
    let size_is = c.in_ok-size.ensures.size ∙ ap size_of c.as_slice-borrowed.ensures.value in
    record {
      contents = record {
        stored = record { some = some; size_is = size_is; limit = omega (arith, size_is, ap size_of c.as_slice-borrowed.ensures.value, c.in_ok-map.ensures.limit) };
        wrapping_is = c.in_ok-map.ensures.wrapping ∙ c.wrapping_for-wrapping.ensures ∙ ap (λ t. wrapping_for c.args.settings (length t)) c.as_slice-borrowed.ensures.value;
        text_layout = subst (λ (t : List (String Global)). AreRowsOf map.wrapping (lines_of t) map.rows) c.as_slice-borrowed.ensures.value c.in_ok-map.ensures.rows;
      };
      measured = tt;
      cached = tt;
      place = located_first items c.new-found.result c.new-found.ensures some;
      marked = c.new-marks.ensures (lines_of items);
    }

pub returns : goal.returns
returns c =
    wrapped_new c.args.settings c.args.lines.items c.as_slice-borrowed.result.now c.args.count c.new.new.counter c.in_ok-map.map.rows
    (omega (arith, c.requires, c.args.lines.ok.0)) c.as_slice-borrowed.ensures.value c.in_ok-map.ensures.counted c.in_ok-map.ensures.ticks
