use Rattle.std.proofs.Common.{Result, Ok, Err, ◌≡◌, ◌≢◌, ◌∙◌, ◌||◌, ℕ, not, true, ap, sym}
use Rattle.std.proofs.lemmas.Bool.{ne_eqb, true≢false}
use Rattle.std.specs.Result.{OnOk}
use Rattle.std.proofs.lemmas.Result.{IfOk-weaker}
use Rattle.textarea_document.specs.Selection.{is_selected}
use Rattle.textarea_lines.specs.declared.settings.LayoutSettings.{LayoutSettings}
use Rattle.tui_textarea.specs.Edits.{inserts_tab, tab_inserted, tab_or_spaces_inserted}
use Rattle.tui_textarea.specs.Grouping.{call_begun, call_ended}
use Rattle.tui_textarea.specs.LayoutCalls.{tab_length}
use Rattle.tui_textarea.specs.Selection.{selection_cancelled, unselected}
use Rattle.textarea_data.specs.declared.range.AtomicCursorBias.TheVariants.{Forward}
use Rattle.tui_textarea.specs.State.{State}
use Rattle.tui_textarea.specs.Units.{settled}
use Rattle.tui_textarea.proofs.Grouping.{ended_err, ended_ok, tab_none}
use Rattle.tui_textarea.proofs.textarea.TextArea.insert_tab_unguarded.Goals as goal

-- with a tab length above 0 a tab is inserted
inserts : {view state : State} → view ≡ state → (settings : LayoutSettings) → settings ≡ view.document.layout.settings → settings.tab_len ≢ 0 → true ≡ inserts_tab state
inserts {view} {state} is settings reported some =
    sym (ap (λ b. not b || is_selected state.document) (ne_eqb (tab_length state.document) 0
    (λ e. some (ap (λ (s : LayoutSettings). s.tab_len) reported ∙ ap (λ (s : State). tab_length s.document) is ∙ e))))

-- the tab length that was read is that of the state
read : {view state : State} → view ≡ state → (settings : LayoutSettings) → settings ≡ view.document.layout.settings → settings.tab_len ≡ tab_length state.document
read is settings reported = ap (λ (s : LayoutSettings). s.tab_len) reported ∙ ap (λ (s : State). tab_length s.document) is

-- a tab of the length of the state is inserted
put : {T E : Type 0} (r : Result T E) (old new : State) (length : ℕ) → length ≡ tab_length old.document →
    OnOk r (new ≡ settled Forward (call_ended old (tab_or_spaces_inserted (unselected (call_begun old)) length))) →
    OnOk r (new ≡ settled Forward (tab_inserted old))
put (Ok x) old new length is h = h ∙ ap (λ (n : ℕ). settled Forward (call_ended old (tab_or_spaces_inserted (unselected (call_begun old)) n))) is
put (Err e) old new length is h = h

-- at a tab length of 0 only the selection goes
left : {T E : Type 0} (r : Result T E) (old new : State) → tab_length old.document ≡ 0 →
    OnOk r (new ≡ settled Forward (selection_cancelled (unselected old))) → OnOk r (new ≡ settled Forward (tab_inserted old))
left (Ok x) old new none h = h ∙ ap (settled Forward) (tab_none old none)
left (Err e) old new none h = h

pub returns-clause-inserted : goal.returns-clause-inserted
returns-clause-inserted c =
    IfOk-weaker c.replace_by_tab-inserted.result (λ b. b ≡ true) (λ b. b ≡ inserts_tab c.args.self.now)
    (λ b e. e ∙ inserts c.self.view_is c.layout_settings-tab_length.result c.layout_settings-tab_length.ensures c.if-tab_length-eq0.false)
    c.replace_by_tab-inserted.ensures.inserted

pub returns-clause-ok : goal.returns-clause-ok
returns-clause-ok c =
    put c.replace_by_tab-inserted.result c.args.self.now c.end_call.new.self c.layout_settings-tab_length.result.tab_len
    (read c.self.view_is c.layout_settings-tab_length.result c.layout_settings-tab_length.ensures)
    (ended_ok c.replace_by_tab-inserted.result (λ (s : State). tab_or_spaces_inserted (unselected s) c.layout_settings-tab_length.result.tab_len) c.args.self.now c.replace_by_tab-inserted.new.self c.begin_call-opens.ensures.opens
    c.begin_call-opens.ensures.begun c.end_call.ensures c.replace_by_tab-inserted.ensures.ok)

pub returns-clause-err : goal.returns-clause-err
returns-clause-err c =
    ended_err c.replace_by_tab-inserted.result c.args.self.now c.replace_by_tab-inserted.new.self c.begin_call-opens.ensures.opens c.begin_call-opens.ensures.begun c.end_call.ensures c.replace_by_tab-inserted.ensures.err

pub returns-clause-nothing : goal.returns-clause-nothing
returns-clause-nothing c = λ none.
    absurd (true≢false (inserts c.self.view_is c.layout_settings-tab_length.result c.layout_settings-tab_length.ensures c.if-tab_length-eq0.false ∙ none))

pub returns-then-tab_length-eq0-clause-ok : goal.returns-then-tab_length-eq0-clause-ok
returns-then-tab_length-eq0-clause-ok c =
    left c.drop_selection.result c.args.self.now c.drop_selection.new.self
    (sym (read c.self.view_is c.layout_settings-tab_length.result c.layout_settings-tab_length.ensures) ∙ c.if-tab_length-eq0.true)
    c.drop_selection.ensures.ok
