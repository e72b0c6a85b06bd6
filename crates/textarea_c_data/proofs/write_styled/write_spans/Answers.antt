use Rattle.std.proofs.Common.{◌≡◌, ◌+◌, ◌∙◌, ℕ, List, [], ◌∷◌, length, drop, map, ap, ap₂, refl, subst, sym, arith}
use Rattle.std.proofs.lemmas.List.{length-map}
use Rattle.textarea_screen.specs.Text.{span_view}
use Rattle.textarea_view.specs.SurroundState.{span_bytes}
use Rattle.textarea_c_data.specs.Copied.{written_at}
use Rattle.textarea_c_data.specs.Spans.{joined_texts, plain_span}
use Rattle.textarea_c_data.specs.declared.spans.CSpan.{CSpan}
use Rattle.textarea_c_data.proofs.Copied.{drop_item}
use Rattle.textarea_c_data.proofs.StyledTexts.{bytes_are, next_out}
use Rattle.textarea_c_data.proofs.write_styled.write_spans.Goals as goal

pub loop-span-preserved : goal.loop-span-preserved
loop-span-preserved c =
    let all = c.args.spans.now in let i = c.loop-span.span-index in let span = c.span-item.result in let rest = drop (i + 1) all in
    let left : drop i all ≡ span ∷ rest = drop_item all i (i + 1) span c.loop-span-test.true refl ∙ ap (λ first. first ∷ rest) (sym c.span-item.is) in
    let content = c.as_bytes-content.result.now in let bytes : List ℕ = span_bytes (span_view span).content in
    let content_is : content ≡ bytes = c.as_bytes-content.ensures.value ∙ c.as_str.ensures ∙ bytes_are span.content in
    let n = length content in
    let one : CSpan = record { bytes = n; style = c.of.result } in
    let one_is : one ≡ plain_span (span_view span) = ap₂ (λ (b : ℕ) s. record { bytes = b; style = s }) (ap length content_is) c.of.ensures.value in
    record {
      text = λ at start_is.
          let f = c.loop-span.invariant.text at start_is in
          let sum : f.0 + length (joined_texts (map span_view (span ∷ rest))) ≡ at + length (joined_texts (map span_view all)) =
          subst (λ spans. f.0 + length (joined_texts (map span_view spans)) ≡ at + length (joined_texts (map span_view all))) left f.2 in
          let out : written_at f.0 c.loop-span.text (joined_texts (map span_view (span ∷ rest))) ≡ written_at at c.args.text.now (joined_texts (map span_view all)) =
          subst (λ spans. written_at f.0 c.loop-span.text (joined_texts (map span_view spans)) ≡ written_at at c.args.text.now (joined_texts (map span_view all))) left f.3 in
          let next = next_out f.0 n c.loop-span.bytes c.saturating_add-bytes.result _ c.loop-span.text bytes (joined_texts (map span_view rest)) _ f.1
          (ap length content_is) (omega (arith, c.saturating_add-bytes.ensures)) c.copy_at.ensures.room sum out in (
            f.0 + n,
            next.0,
            next.1,
            subst (λ (text : List ℕ). written_at (f.0 + n) text (joined_texts (map span_view rest)) ≡ written_at at c.args.text.now (joined_texts (map span_view all)))
                (sym (c.copy_at.ensures.out ∙ ap (λ (b : List ℕ). written_at c.loop-span.bytes c.loop-span.text b) content_is)) next.2,
          );
      spans = λ at first_is.
          let f = c.loop-span.invariant.spans at first_is in
          let views = map span_view rest in
          let sum : f.0 + length (span ∷ rest) ≡ at + length all = subst (λ spans. f.0 + length spans ≡ at + length all) left f.2 in
          let out : written_at f.0 c.loop-span.out (map plain_span (map span_view (span ∷ rest))) ≡ written_at at c.args.out.now (map plain_span (map span_view all)) =
          subst (λ spans. written_at f.0 c.loop-span.out (map plain_span (map span_view spans)) ≡ written_at at c.args.out.now (map plain_span (map span_view all))) left f.3 in
          let next = next_out f.0 1 c.loop-span.count c.saturating_add-count.result (at + length all) c.loop-span.out (plain_span (span_view span) ∷ []) (map plain_span views) _ f.1 refl
          (omega (arith, c.saturating_add-count.ensures)) c.put.ensures.room
          (omega (arith, sum, length-map views plain_span, length-map rest span_view)) out in (
            f.0 + 1,
            next.0,
            omega (arith, next.1, length-map views plain_span, length-map rest span_view),
            subst (λ (out : List CSpan). written_at (f.0 + 1) out (map plain_span views) ≡ written_at at c.args.out.now (map plain_span (map span_view all)))
                (sym (c.put.ensures.out ∙ ap (λ (s : CSpan). written_at c.loop-span.count c.loop-span.out (s ∷ [])) one_is)) next.2,
          );
    }
