use Rattle.std.proofs.Common.{◌≡◌, ◌∙◌, List, Option, length, map, ap, subst, sym, arith, option_map}
use Rattle.std.proofs.lemmas.List.{length-map}
use Rattle.textarea_screen.specs.Text.{LineView, SpanView, line_view, span_view}
use Rattle.textarea_c_data.specs.Copied.{saturated, copied_over}
use Rattle.textarea_c_data.specs.Spans.{AreSpansOut, joined_texts, plain_span, title_spans}
use Rattle.textarea_c_data.proofs.write_styled.write_title.Goals as goal

pub returns-in-Some : goal.returns-in-Some
returns-in-Some c =
    let line = c.in-Some.line in let own : List SpanView = map span_view line.spans.items in
    let zero_is : 0 ≡ saturated 0 = omega arith in let wrote = c.write_spans.ensures in
    let same : map span_view c.as_slice.result.now ≡ own = ap (map span_view) c.as_slice.ensures.value in
    let out : AreSpansOut own c.args.text.now c.write_spans.new.text c.write_spans.result.0 c.args.spans.now c.write_spans.new.out c.write_spans.result.1 = record {
      text_is = wrote.text 0 zero_is ∙ ap (λ (views : List SpanView). copied_over c.args.text.now (joined_texts views)) same;
      bytes_is = omega (arith, wrote.bytes 0 zero_is, ap (λ (views : List SpanView). length (joined_texts views)) same);
      spans_are = wrote.spans 0 zero_is ∙ ap (λ (views : List SpanView). copied_over c.args.spans.now (map plain_span views)) same;
      count_is = omega (arith, wrote.count 0 zero_is, ap length c.as_slice.ensures.value, length-map line.spans.items span_view);
    } in
    subst (λ (title : Option LineView). AreSpansOut (title_spans title) c.args.text.now c.write_spans.new.text c.write_spans.result.0 c.args.spans.now c.write_spans.new.out c.write_spans.result.1)
    (sym (ap (option_map line_view) c.in-Some.is)) out
