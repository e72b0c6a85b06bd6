use Rattle.std.proofs.Common.{◌≡◌, ◌==◌, cond, [], map, length, ap, ◌∙◌, arith}
use Rattle.std.proofs.lemmas.List.{nil_from_length}
use Rattle.std.proofs.lemmas.List.Sorted.{length_permutation}
use Rattle.std.proofs.lemmas.Result.{on_ok_weaker}
use Rattle.textarea_screen.specs.Text.{span_view}
use Rattle.textarea_screen.specs.declared.screen.text.Line.{Line}
use Rattle.textarea_highlight.specs.Highlights.{Highlights, end_style}
use Rattle.textarea_highlight.proofs.BorderLemmas.{ascending}
use Rattle.textarea_highlight.proofs.RowLemmas.{all_numbers, cleared_numbers, part_added}
use Rattle.textarea_highlight.proofs.highlight.highlighter.LineHighlighter.show_part_in.Goals as goal
use Rattle.textarea_highlight.proofs.highlight.highlighter.LineHighlighter.show_part_in.Goals.{then-part-gt0, else-part-gt0}

pub push_part-requires-clause-ordered : goal.push_part-requires-clause-ordered
push_part-requires-clause-ordered c = ascending c.sort.new.borders.items c.in_ok-sort.ensures.sorted

pub returns-clause-displayed : goal.returns-clause-displayed
returns-clause-displayed c =
    let sorted = c.in_ok-sort.ensures in
    let part = c.args.part in
    let before : map span_view c.if-part-gt0.line.spans.items ≡ cond (part.from == 0) (map span_view c.self.inside.spans.items) [] =
    elim c.if-part-gt0.branch [
      | then-part-gt0 w ↦
          ap (λ (line : Line). map span_view line.spans.items) w.line-is ∙ ap (map span_view) w.clear.ensures.items ∙ cleared_numbers (record c.args.self.now { numbers = map span_view c.self.inside.spans.items }) part w.if-part-gt0.true
      | else-part-gt0 w ↦
          let same : map span_view c.swap.new.x.items ≡ cond (part.from == 0) (map span_view c.self.inside.spans.items) [] =
          rw c.swap.ensures.x_after (all_numbers (record c.args.self.now { numbers = map span_view c.self.inside.spans.items }) part w.if-part-gt0.false) in
          ap (λ (line : Line). map span_view line.spans.items) w.line-is ∙ same
    ] in
    on_ok_weaker c.push_part.result
    (λ added.
    part_added _ c.args.self.now part c.sort.new.borders.items _ _ _ c.new-line.result c.self.view_is
    (record { same = sorted.permutation; in_order = sorted.sorted; stable = sorted.stable })
    (omega (arith, c.requires.end.0, ap (λ (h : Highlights). length h.row) c.self.view_is)) before added c.new-line.ensures)
    c.push_part.ensures.added

pub returns-clause-nothing : goal.returns-clause-nothing
returns-clause-nothing c = λ none.
    let unsorted = ap (λ h. h.borders) c.self.view_is ∙ none.borders in
    let same = length_permutation _ _ c.in_ok-sort.ensures.permutation ∙ ap length unsorted in
    c.push_part.ensures.nothing (ap (λ h. h.row) c.self.view_is ∙ none.row) (nil_from_length c.sort.new.borders.items (omega (arith, same)))
    (ap end_style c.self.view_is ∙ none.after)
