use Rattle.std.proofs.Common.{◌≡◌, ◌∙◌, List, ap, sym}
use Rattle.std.proofs.lemmas.Result.{IfOk-weaker, on_ok_weaker}
use Rattle.std.specs.Str.{chars}
use Rattle.textarea_document.specs.Selection.{is_selected}
use Rattle.textarea_text.specs.Fragment.{pasted_symbols}
use Rattle.textarea_text.specs.Text.{Symbol}
use Rattle.tui_textarea.specs.Edits.{inserts_text, str_inserted}
use Rattle.tui_textarea.specs.Guards.{admitted_over_selection}
use Rattle.textarea_data.specs.declared.range.AtomicCursorBias.TheVariants.{Forward}
use Rattle.tui_textarea.specs.Units.{settled}
use Rattle.tui_textarea.proofs.Admitted.{admitted_over_none, inserts_none}
use Rattle.tui_textarea.proofs.Filled.{none_unless}
use Rattle.tui_textarea.proofs.textarea.TextArea.insert_pasted_unguarded.Goals as goal

pub returns-then-not-has_pasted_text-clause-inserted : goal.returns-then-not-has_pasted_text-clause-inserted
returns-then-not-has_pasted_text-clause-inserted c =
    let state = c.args.self.now in
    let symbols = pasted_symbols (chars c.args.text.now) in
    let none = none_unless c.has_pasted_text.result symbols c.has_pasted_text.ensures c.if-not-has_pasted_text.true in
    IfOk-weaker c.insert_nothing.result (λ b. b ≡ is_selected state.document) (λ b. b ≡ inserts_text state (admitted_over_selection state symbols))
    (λ b e. e ∙ sym (inserts_none state symbols none)) c.insert_nothing.ensures.removed

pub returns-then-not-has_pasted_text-clause-ok : goal.returns-then-not-has_pasted_text-clause-ok
returns-then-not-has_pasted_text-clause-ok c =
    let state = c.args.self.now in
    let symbols = pasted_symbols (chars c.args.text.now) in
    let none = none_unless c.has_pasted_text.result symbols c.has_pasted_text.ensures c.if-not-has_pasted_text.true in
    on_ok_weaker c.insert_nothing.result (λ e. e ∙ ap (λ (t : List Symbol). settled Forward (str_inserted state t)) (sym (admitted_over_none state symbols none))) c.insert_nothing.ensures.ok
