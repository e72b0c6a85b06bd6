use Rattle.std.proofs.Common.{◌∙◌, ap, arith}
use Rattle.textarea_text.specs.Text.{text_of}
use Rattle.tui_textarea.proofs.Fitting.{rows_ordered, size-between-le}
use Rattle.tui_textarea.proofs.textarea.TextArea.stretch_length.Goals as goal

pub symbol_count-requires-clause-limit : goal.symbol_count-requires-clause-limit
symbol_count-requires-clause-limit c =
    let start = c.stretch.result.0 in
    let end = c.stretch.result.1 in
    let part = c.as_slice.result.now in
    let ordered = rows_ordered c.self.inside.document.text start end c.stretch.ensures.start_place c.stretch.ensures.end_place c.stretch.ensures.ordered in
    let is = ap text_of c.as_slice.ensures.value ∙ c.in_ok-removed.ensures.text in
    omega (arith, c.lines.ensures.limit, size-between-le c.lines.result.now part start end c.lines.ensures.some (omega (arith, ordered, c.in_ok-removed.ensures.len, c.as_slice.ensures.len)) is)
