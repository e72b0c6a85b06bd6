use Rattle.std.proofs.Common.{◌≡◌, ◌∙◌, ◌||◌, Bool, List, ap, sym, false}
use Rattle.std.proofs.lemmas.Bool.{or_left}
use Rattle.std.proofs.lemmas.Result.{IfOk-weaker, on_ok_weaker}
use Rattle.std.specs.Str.{chars}
use Rattle.textarea_document.specs.Edits.{has_symbols}
use Rattle.textarea_document.specs.Selection.{is_selected}
use Rattle.textarea_text.specs.Fragment.{fragment_symbols}
use Rattle.textarea_text.specs.Text.{Symbol}
use Rattle.tui_textarea.specs.Edits.{inserts_text, str_inserted}
use Rattle.tui_textarea.specs.Fitting.{fitting_selection}
use Rattle.tui_textarea.specs.Guards.{admitted_over_selection}
use Rattle.tui_textarea.specs.State.{State}
use Rattle.textarea_data.specs.declared.range.AtomicCursorBias.TheVariants.{Forward}
use Rattle.tui_textarea.specs.Units.{settled}
use Rattle.tui_textarea.proofs.Admitted.{admitted_over_none, inserts_none, selected_is}
use Rattle.tui_textarea.proofs.Filled.{none_unless}
use Rattle.tui_textarea.proofs.textarea.TextArea.insert_str_unguarded.Goals as goal

pub returns-then-not-has_text-clause-inserted : goal.returns-then-not-has_text-clause-inserted
returns-then-not-has_text-clause-inserted c =
    let state = c.args.self.now in
    let symbols = fragment_symbols (chars c.args.text.now) in
    let none = none_unless c.has_text.result symbols c.has_text.ensures c.if-not-has_text.true in
    IfOk-weaker c.insert_nothing.result (λ b. b ≡ is_selected state.document) (λ b. b ≡ inserts_text state (admitted_over_selection state symbols))
    (λ b e. e ∙ sym (inserts_none state symbols none)) c.insert_nothing.ensures.removed

pub returns-then-not-has_text-clause-ok : goal.returns-then-not-has_text-clause-ok
returns-then-not-has_text-clause-ok c =
    let state = c.args.self.now in
    let symbols = fragment_symbols (chars c.args.text.now) in
    let none = none_unless c.has_text.result symbols c.has_text.ensures c.if-not-has_text.true in
    on_ok_weaker c.insert_nothing.result (λ e. e ∙ ap (λ (t : List Symbol). settled Forward (str_inserted state t)) (sym (admitted_over_none state symbols none))) c.insert_nothing.ensures.ok

pub returns-then-removes-clause-inserted : goal.returns-then-removes-clause-inserted
returns-then-removes-clause-inserted c =
    let state = c.args.self.now in
    let symbols = admitted_over_selection state (fragment_symbols (chars c.args.text.now)) in
    sym (or_left (is_selected state.document) (has_symbols symbols)
    (ap (λ (s : State). is_selected s.document) (sym c.self.view_is)
    ∙ sym (selected_is c.filled_selection.result (is_selected c.self.inside.document) c.filled_selection.ensures.found) ∙ sym c.is_some-removes.ensures ∙ c.if-removes.true))

pub returns-then-removes-clause-ok : goal.returns-then-removes-clause-ok
returns-then-removes-clause-ok c =
    c.in_ok-inserts.ensures.ok ∙ ap (λ (t : List Symbol). settled Forward (str_inserted c.args.self.now (fitting_selection c.args.self.now t))) c.in_ok-fragment_lines.ensures

pub returns-clause-inserted : goal.returns-clause-inserted
returns-clause-inserted c =
    let state = c.args.self.now in
    let symbols = admitted_over_selection state (fragment_symbols (chars c.args.text.now)) in
    let none : is_selected state.document ≡ false =
    ap (λ (s : State). is_selected s.document) (sym c.self.view_is)
    ∙ sym (selected_is c.filled_selection.result (is_selected c.self.inside.document) c.filled_selection.ensures.found) ∙ sym c.is_some-removes.ensures ∙ c.if-removes.false in
    c.in_ok-inserts.ensures.inserted ∙ ap (λ (t : List Symbol). has_symbols (fitting_selection state t)) c.in_ok-fragment_lines.ensures
    ∙ ap (λ (b : Bool). b || has_symbols symbols) (sym none)

pub returns-clause-ok : goal.returns-clause-ok
returns-clause-ok c =
    c.in_ok-inserts.ensures.ok ∙ ap (λ (t : List Symbol). settled Forward (str_inserted c.args.self.now (fitting_selection c.args.self.now t))) c.in_ok-fragment_lines.ensures
