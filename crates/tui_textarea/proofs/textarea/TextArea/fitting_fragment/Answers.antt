use Rattle.std.proofs.Common.{◌≡◌, ◌∙◌, ℕ, ap, is_some, length, not, subst, sym}
use Rattle.std.specs.Result.{IfOk}
use Rattle.textarea_text.specs.Text.{text_of}
use Rattle.tui_textarea.specs.Fitting.{fitting_beside}
use Rattle.tui_textarea.specs.State.{State}
use Rattle.tui_textarea.proofs.Admitted.{fits_whole}
use Rattle.tui_textarea.proofs.textarea.TextArea.fitting_fragment.Goals as goal

pub returns-then-is_none : goal.returns-then-is_none
returns-then-is_none c =
    let old = c.args.self.now in
    sym (fits_whole old.settings.max_chars (length old.document.text) (text_of c.args.fragment_lines.value.items)
    (ap (λ (s : State). is_some s.settings.max_chars) (sym c.self.view_is) ∙ c.is_none.ensures ∙ ap not c.if-is_none.true))

pub returns : goal.returns
returns c =
    subst (λ (others : ℕ). IfOk c.fitting.result (λ kept. text_of kept.value.items ≡ fitting_beside c.args.self.now.settings.max_chars others (text_of c.args.fragment_lines.value.items)))
    c.symbol_count.ensures c.fitting.ensures
