use Rattle.std.proofs.Common.{◌≡◌, ◌++◌, drop, map, option_map}
use Rattle.textarea_screen.specs.Text.{span_view}
use Rattle.textarea_c_data.specs.Spans.{spans_end, spans_read}
use Rattle.textarea_c_data.proofs.read_styled.read_spans.Given as goal

-- the spans so far, and those that are left, are all of them
abbrev pub invariant-loop-span : goal.invariant-loop-span
invariant-loop-span l = record {
  spans :
      option_map (λ rest. map span_view l.read.items ++ rest) (spans_read l.text l.from (drop l.span-index l.spans))
      ≡ spans_read l.text l.start l.spans;
  end : spans_end l.from (drop l.span-index l.spans) ≡ spans_end l.start l.spans;
}
