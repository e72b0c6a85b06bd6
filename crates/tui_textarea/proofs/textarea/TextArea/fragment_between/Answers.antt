use Rattle.std.proofs.Common.{◌∙◌, ◌-◌, ap, arith, is_some, length, not, sym}
use Rattle.std.specs.Str.{chars}
use Rattle.textarea_document.specs.Replacing.{stretch_end, stretch_start, stretch_symbols}
use Rattle.textarea_text.specs.Fragment.{fragment_symbols}
use Rattle.tui_textarea.specs.Guards.{admitted}
use Rattle.tui_textarea.specs.State.{State}
use Rattle.tui_textarea.proofs.Admitted.{fits_whole}
use Rattle.tui_textarea.proofs.Fitting.{length-between-le}
use Rattle.tui_textarea.proofs.textarea.TextArea.fragment_between.Goals as goal

pub returns-then-is_none : goal.returns-then-is_none
returns-then-is_none c =
    let old = c.args.self.now in
    let text = old.document.text in
    c.in_ok-fragment_lines.ensures
    ∙ sym (fits_whole old.settings.max_chars (length text - length (stretch_symbols text c.args.from c.args.to)) (admitted old (fragment_symbols (chars c.args.text.now)))
    (ap (λ (s : State). is_some s.settings.max_chars) (sym c.self.view_is) ∙ c.is_none.ensures ∙ ap not c.if-is_none.true))

pub overflow_sub-others : goal.overflow_sub-others
overflow_sub-others c =
    let text = c.args.self.now.document.text in
    omega (arith, c.symbol_count.ensures, c.in_ok-removed.ensures, length-between-le text (stretch_start text c.args.from c.args.to) (stretch_end text c.args.from c.args.to))
