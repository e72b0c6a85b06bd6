use Rattle.std.proofs.Common.{ℕ, ap, not, sym, ◌∙◌}
use Rattle.textarea_document.specs.Edits.{has_symbols}
use Rattle.textarea_view.specs.Measure.{measure_of, width_inside}
use Rattle.tui_textarea.proofs.laws.one_measure.Goals as goal

pub returns : goal.returns
returns c = λ state width measure other h k.
    let rows = c.one_row_count.ensures state.document (width_inside state.surround.block width) h.rows k.rows h.rows_are k.rows_are in
    h.measure_is ∙ ap (λ (n : ℕ). measure_of state.surround n (not (has_symbols state.document.text))) rows ∙ sym k.measure_is
