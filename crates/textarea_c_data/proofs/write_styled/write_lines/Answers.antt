use Rattle.std.proofs.Common.{◌≡◌, ◌+◌, ◌∙◌, ℕ, List, [], ◌∷◌, ◌++◌, length, drop, map, ap, ap₂, refl, subst, sym, arith}
use Rattle.std.proofs.lemmas.List.{length-append, length-map, map-append}
use Rattle.textarea_screen.specs.Text.{SpanView, line_view, span_view}
use Rattle.textarea_c_data.specs.Copied.{saturated, written_at}
use Rattle.textarea_c_data.specs.Spans.{joined_texts, line_for_c, plain_span, spans_of}
use Rattle.textarea_c_data.specs.declared.spans.CLine.{CLine}
use Rattle.textarea_c_data.specs.declared.spans.CSpan.{CSpan}
use Rattle.textarea_c_data.proofs.Copied.{drop_item, written_at_more}
use Rattle.textarea_c_data.proofs.StyledTexts.{bytes_append}
use Rattle.textarea_c_data.proofs.write_styled.write_lines.Goals as goal

pub loop-row-preserved : goal.loop-row-preserved
loop-row-preserved c =
    let all = c.args.content.now in let row = c.loop-row.row in let line = c.index-content-row.result in let rest = drop (row + 1) all in
    let left : drop row all ≡ line ∷ rest = drop_item all row (row + 1) line c.loop-row-test.true refl ∙ ap (λ first. first ∷ rest) (sym c.index-content-row.is) in
    let own : List SpanView = map span_view line.spans.items in let later : List SpanView = spans_of (map line_view rest) in
    let passed = c.as_slice-own.result.now in
    let same : map span_view passed ≡ own = ap (map span_view) c.as_slice-own.ensures.value in
    let counted : length passed ≡ length own = ap length c.as_slice-own.ensures.value ∙ sym (length-map line.spans.items span_view) in
    let wrote = c.write_spans-used.ensures in
    record {
      text =
          let f = c.loop-row.invariant.text in let n = length (joined_texts own) in let parts = bytes_append own later in
          let sum : f.0 + length (joined_texts (own ++ later)) ≡ length (joined_texts (spans_of (map line_view all))) =
          subst (λ lines. f.0 + length (joined_texts (spans_of (map line_view lines))) ≡ length (joined_texts (spans_of (map line_view all)))) left f.2 in
          let out : written_at f.0 c.loop-row.text (joined_texts (own ++ later)) ≡ written_at 0 c.args.text.now (joined_texts (spans_of (map line_view all))) =
          subst (λ lines. written_at f.0 c.loop-row.text (joined_texts (spans_of (map line_view lines))) ≡ written_at 0 c.args.text.now (joined_texts (spans_of (map line_view all)))) left f.3 in
          let parted : written_at f.0 c.loop-row.text (joined_texts own ++ joined_texts later) ≡ written_at 0 c.args.text.now (joined_texts (spans_of (map line_view all))) =
          subst (λ (bytes : List ℕ). written_at f.0 c.loop-row.text bytes ≡ written_at 0 c.args.text.now (joined_texts (spans_of (map line_view all)))) parts out in (
            f.0 + n,
            wrote.bytes f.0 f.1 ∙ ap (λ (views : List SpanView). saturated (f.0 + length (joined_texts views))) same,
            omega (arith, sum, ap length parts, length-append (joined_texts own) (joined_texts later)),
            subst (λ (text : List ℕ). written_at (f.0 + n) text (joined_texts later) ≡ written_at 0 c.args.text.now (joined_texts (spans_of (map line_view all))))
                (sym (wrote.text f.0 f.1 ∙ ap (λ (views : List SpanView). written_at f.0 c.loop-row.text (joined_texts views)) same))
                (rw (written_at_more f.0 (f.0 + n) c.loop-row.text (joined_texts own) (joined_texts later) refl) parted),
          );
      spans =
          let f = c.loop-row.invariant.spans in let n = length own in let whole = map plain_span (spans_of (map line_view all)) in
          let sum : f.0 + length (own ++ later) ≡ length (spans_of (map line_view all)) =
          subst (λ lines. f.0 + length (spans_of (map line_view lines)) ≡ length (spans_of (map line_view all))) left f.2 in
          let out : written_at f.0 c.loop-row.spans (map plain_span (own ++ later)) ≡ written_at 0 c.args.spans.now whole =
          subst (λ lines. written_at f.0 c.loop-row.spans (map plain_span (spans_of (map line_view lines))) ≡ written_at 0 c.args.spans.now whole) left f.3 in
          let parted : written_at f.0 c.loop-row.spans (map plain_span own ++ map plain_span later) ≡ written_at 0 c.args.spans.now whole =
          subst (λ (spans : List CSpan). written_at f.0 c.loop-row.spans spans ≡ written_at 0 c.args.spans.now whole) (map-append plain_span own later) out in
          let after : f.0 + n ≡ f.0 + length (map plain_span own) = omega (arith, length-map own plain_span) in (
            f.0 + n,
            wrote.count f.0 f.1 ∙ ap (λ (count : ℕ). saturated (f.0 + count)) counted,
            omega (arith, sum, length-append own later),
            subst (λ (spans : List CSpan). written_at (f.0 + n) spans (map plain_span later) ≡ written_at 0 c.args.spans.now whole)
                (sym (wrote.spans f.0 f.1 ∙ ap (λ (views : List SpanView). written_at f.0 c.loop-row.spans (map plain_span views)) same))
                (rw (written_at_more f.0 (f.0 + n) c.loop-row.spans (map plain_span own) (map plain_span later) after) parted),
          );
      lines =
          let whole = map line_for_c (map line_view all) in let views = map line_for_c (map line_view rest) in
          let one : CLine = record { spans = length passed; style = c.of.result } in
          let one_is : one ≡ line_for_c (line_view line) = ap₂ (λ (n : ℕ) s. record { spans = n; style = s }) counted c.of.ensures.value in
          let out : written_at row c.loop-row.lines (line_for_c (line_view line) ∷ views) ≡ written_at 0 c.args.lines.now whole =
          subst (λ lines. written_at row c.loop-row.lines (map line_for_c (map line_view lines)) ≡ written_at 0 c.args.lines.now whole) left c.loop-row.invariant.lines in
          let after : row + 1 ≡ row + length (line_for_c (line_view line) ∷ []) = omega arith in
          subst (λ (lines : List CLine). written_at (row + 1) lines views ≡ written_at 0 c.args.lines.now whole)
          (sym (c.put.ensures.out ∙ ap (λ (l : CLine). written_at row c.loop-row.lines (l ∷ [])) one_is))
          (rw (written_at_more row (row + 1) c.loop-row.lines (line_for_c (line_view line) ∷ []) views after) out);
    }
