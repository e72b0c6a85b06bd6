use Rattle.std.proofs.Common.{◌≡◌, ◌∙◌, ◌+◌, ◌-◌, ap, arith, drop, refl, take}
use Rattle.tui_textarea.specs.Fitting.{fits_for}
use Rattle.tui_textarea.specs.State.{State}
use Rattle.tui_textarea.proofs.Fitting.{duplicate_length, duplicate_length_is, length-following-le, length-text-le, size-part-le}
use Rattle.tui_textarea.proofs.textarea.TextArea.fits_duplicate.Goals as goal

pub symbol_count-requires-clause-limit : goal.symbol_count-requires-clause-limit
symbol_count-requires-clause-limit c =
    let first = c.selected_rows-first.result.0 in
    omega (arith, size-part-le c.lines.result.now first (c.selected_rows-first.result.1 + 1 - first), c.lines.ensures.limit)

pub overflow_add-symbol_count : goal.overflow_add-symbol_count
overflow_add-symbol_count c =
    let first = c.selected_rows-first.result.0 in
    let count = c.selected_rows-first.result.1 + 1 - first in
    let part = take count (drop first c.lines.result.now) in
    omega (arith, c.symbol_count.ensures, length-text-le part, length-following-le part, size-part-le c.lines.result.now first count, c.lines.ensures.limit)

pub returns : goal.returns
returns c =
    let state = c.args.self.now in
    let first = c.selected_rows-first.result.0 in
    let last = c.selected_rows-first.result.1 in
    let part = take (last + 1 - first) (drop first c.lines.result.now) in
    let same : c.self.inside.document ≡ state.document = ap (λ (s : State). s.document) c.self.view_is in
    let rows = c.selected_rows-first.ensures in
    let counted : c.symbol_count.result + 1 ≡ duplicate_length c.self.inside.document =
    duplicate_length_is c.self.inside.document c.lines.result.now part first last c.symbol_count.result rows.ordered rows.within c.lines.ensures.lines refl rows.first rows.last c.symbol_count.ensures in
    c.fits.ensures ∙ ap (fits_for state 0) (counted ∙ ap duplicate_length same)
