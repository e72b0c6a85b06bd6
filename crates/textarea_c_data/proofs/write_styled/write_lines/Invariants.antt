use Rattle.std.proofs.Common.{◌≡◌, ℕ, ◌+◌, drop, length, map}
use Rattle.textarea_screen.specs.Text.{line_view}
use Rattle.textarea_c_data.specs.Copied.{saturated, copied_over, written_at}
use Rattle.textarea_c_data.specs.Spans.{joined_texts, line_for_c, plain_span, spans_of}
use Rattle.textarea_c_data.proofs.write_styled.write_lines.Given as goal

-- what is left to write leads to the same slices, also from places past the greatest number
abbrev pub invariant-loop-row : goal.invariant-loop-row
invariant-loop-row l = record {
  text : (here : ℕ) × (l.used.0 ≡ saturated here)
      × (here + length (joined_texts (spans_of (map line_view (drop l.row l.content)))) ≡ length (joined_texts (spans_of (map line_view l.content))))
      × (written_at here l.text (joined_texts (spans_of (map line_view (drop l.row l.content)))) ≡ copied_over l.initial.text (joined_texts (spans_of (map line_view l.content))));
  spans : (here : ℕ) × (l.used.1 ≡ saturated here)
      × (here + length (spans_of (map line_view (drop l.row l.content))) ≡ length (spans_of (map line_view l.content)))
      × (written_at here l.spans (map plain_span (spans_of (map line_view (drop l.row l.content)))) ≡ copied_over l.initial.spans (map plain_span (spans_of (map line_view l.content))));
  lines : written_at l.row l.lines (map line_for_c (map line_view (drop l.row l.content))) ≡ copied_over l.initial.lines (map line_for_c (map line_view l.content));
}
