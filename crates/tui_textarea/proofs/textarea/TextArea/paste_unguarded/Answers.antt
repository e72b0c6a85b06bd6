use Rattle.std.proofs.Common.{◌≡◌, List, [], Global, String, Vec, ap, sym, ◌∙◌}
use Rattle.textarea_text.specs.Text.{Symbol, text_of}
use Rattle.textarea_document.specs.Edits.{has_symbols}
use Rattle.tui_textarea.specs.Edits.{str_inserted}
use Rattle.tui_textarea.specs.State.{State}
use Rattle.textarea_data.specs.declared.range.AtomicCursorBias.TheVariants.{Forward}
use Rattle.tui_textarea.specs.Units.{settled}
use Rattle.tui_textarea.proofs.Filled.{none_unless}
use Rattle.tui_textarea.proofs.Admitted.{admitted_over_none}
use Rattle.tui_textarea.proofs.textarea.TextArea.paste_unguarded.Goals as goal

pub returns-then-not-has_symbol-clause-ok : goal.returns-then-not-has_symbol-clause-ok
returns-then-not-has_symbol-clause-ok c =
    let none : c.args.self.now.yank ≡ [] =
    sym (ap (λ (s : State). s.yank) c.self.view_is) ∙ sym (ap (λ (v : Vec (String Global) Global). text_of v.items) c.deref.ensures) ∙ sym (ap text_of c.as_slice.ensures.value)
    ∙ none_unless c.has_symbol.result (text_of c.as_slice.result.now) c.has_symbol.ensures c.if-not-has_symbol.true in
    c.in_ok-insert_nothing.ensures.ok ∙ ap (λ (t : List Symbol). settled Forward (str_inserted c.args.self.now t)) (sym (admitted_over_none c.args.self.now c.args.self.now.yank none))

pub returns-then-not-has_symbol-clause-inserted : goal.returns-then-not-has_symbol-clause-inserted
returns-then-not-has_symbol-clause-inserted c =
    let none : c.args.self.now.yank ≡ [] =
    sym (ap (λ (s : State). s.yank) c.self.view_is) ∙ sym (ap (λ (v : Vec (String Global) Global). text_of v.items) c.deref.ensures) ∙ sym (ap text_of c.as_slice.ensures.value)
    ∙ none_unless c.has_symbol.result (text_of c.as_slice.result.now) c.has_symbol.ensures c.if-not-has_symbol.true in
    sym (ap has_symbols (admitted_over_none c.args.self.now c.args.self.now.yank none))
