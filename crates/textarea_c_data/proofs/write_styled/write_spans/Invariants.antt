use Rattle.std.proofs.Common.{◌≡◌, ℕ, ◌+◌, drop, length, map}
use Rattle.textarea_screen.specs.Text.{span_view}
use Rattle.textarea_c_data.specs.Copied.{saturated, written_at}
use Rattle.textarea_c_data.specs.Spans.{joined_texts, plain_span}
use Rattle.textarea_c_data.proofs.write_styled.write_spans.Given as goal

-- what is left to write leads to the same slices, also from places past the greatest number
abbrev pub invariant-loop-span : goal.invariant-loop-span
invariant-loop-span l = record {
  text : (at : ℕ) → l.start ≡ saturated at → (here : ℕ) × (l.bytes ≡ saturated here)
      × (here + length (joined_texts (map span_view (drop l.span-index l.spans))) ≡ at + length (joined_texts (map span_view l.spans)))
      × (written_at here l.text (joined_texts (map span_view (drop l.span-index l.spans))) ≡ written_at at l.initial.text (joined_texts (map span_view l.spans)));
  spans : (at : ℕ) → l.first ≡ saturated at → (here : ℕ) × (l.count ≡ saturated here)
      × (here + length (drop l.span-index l.spans) ≡ at + length l.spans)
      × (written_at here l.out (map plain_span (map span_view (drop l.span-index l.spans))) ≡ written_at at l.initial.out (map plain_span (map span_view l.spans)));
}
