use Rattle.std.proofs.Common.{◌≡◌, ◌∙◌, ap, length}
use Rattle.std.proofs.lemmas.Result.{IfOk-weaker, on_ok_weaker}
use Rattle.textarea_text.specs.Text.{text_of}
use Rattle.textarea_document.specs.Edits.{has_symbols, symbols_inserted}
use Rattle.tui_textarea.specs.Edits.{symbols_or_none_inserted}
use Rattle.tui_textarea.specs.Fitting.{fitting_beside}
use Rattle.tui_textarea.specs.State.{State}
use Rattle.tui_textarea.proofs.Lifted.{document_lifted}
use Rattle.tui_textarea.proofs.textarea.TextArea.insert_fitting.Goals as goal

pub returns-clause-inserted : goal.returns-clause-inserted
returns-clause-inserted c =
    IfOk-weaker c.insert.result (λ b. b ≡ has_symbols (text_of c.in_ok-fitting.fitting.value.items))
    (λ b. b ≡ has_symbols (fitting_beside c.args.self.now.settings.max_chars (length c.args.self.now.document.text) (text_of c.args.fragment_lines.value.items)))
    (λ b e. e ∙ ap has_symbols c.in_ok-fitting.ensures) c.insert.ensures.inserted

pub returns-clause-ok : goal.returns-clause-ok
returns-clause-ok c =
    on_ok_weaker c.insert.result (λ e. e ∙ ap (symbols_or_none_inserted c.args.self.now) c.in_ok-fitting.ensures)
    (document_lifted c.insert.result (λ (s : State). symbols_inserted s.document (text_of c.in_ok-fitting.fitting.value.items) s.time) c.self.view_is
    c.insert.new.self c.insert.ensures.ok)
