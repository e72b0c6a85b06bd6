-- The texts that undos reach.
use Rattle.std.proofs.Common.{◌≡◌, ◌≢◌, ◌↔◌, ◌∙◌, ◌&&◌, ℕ, zero, suc, ◌-◌, ◌<◌, ◌≤◌, Bool, true, false, List, [], ◌∷◌, length, is_some, not, refl, sym, subst, ap, arith}
use Rattle.std.specs.List.{slice_get}
use Rattle.textarea_history.specs.Groups.{group_count}
use Rattle.textarea_history.specs.HistoryLaw.{times}
use Rattle.textarea_history.specs.Log.{Log, Logged, done_groups, newest}
use Rattle.textarea_history.proofs.Groups.{some_group}
use Rattle.textarea_history.proofs.LogLaws.{newest_some, times-front}
use Rattle.textarea_text.specs.Fragment.{fragment_text}
use Rattle.textarea_text.specs.Splice.{Splice}
use Rattle.textarea_document.specs.DocumentLaw.{RestoresDocument}
use Rattle.textarea_data.specs.declared.range.AtomicCursorBias.TheVariants.{Forward}
use Rattle.textarea_document.specs.DocumentState.{DocumentState, logged}
use Rattle.textarea_document.proofs.UndoLaw.{undos_alike}
use Rattle.textarea_document.specs.Outcomes.{after_undo}
use Rattle.std.proofs.lemmas.Bool.{and_parts, cond-false, not-true}
use Rattle.tui_textarea.specs.Guards.{is_editable}
use Rattle.tui_textarea.specs.State.{State, with_document}
use Rattle.tui_textarea.specs.TextsBefore.{ReachesBack, StepsBack, state_undone, undoes}
use Rattle.tui_textarea.specs.Units.{settled}
use Rattle.tui_textarea.specs.declared.textarea.settings.Settings.{Settings}
use Rattle.tui_textarea.proofs.Cases.{by_test}
use Rattle.tui_textarea.proofs.Settling.{settled_as, settled_settings}

-- ---- the number of done groups

some_by : (marks : List Bool) (done : List Splice) → is_some (slice_get done (length done - 1)) ≡ true → 0 < group_count marks (length done)
some_by marks [] some = let no : false ≡ true = some in cc
some_by marks (splice ∷ done) some = omega (arith, some_group marks (length done))

some_groups : (log : Log) → is_some (newest log) ≡ true → 0 < done_groups log
some_groups log some = some_by log.marks log.done some

none_by : (marks : List Bool) (done : List Splice) → is_some (slice_get done (length done - 1)) ≡ false → group_count marks (length done) ≡ 0
none_by marks [] none = refl
none_by marks (splice ∷ done) none =
    let found = newest_some (splice ∷ done) (omega arith) in
    let no : true ≡ false = sym (ap is_some found.1) ∙ none in cc

no_groups : (log : Log) → is_some (newest log) ≡ false → done_groups log ≡ 0
no_groups log none = none_by log.marks log.done none

abbrev pub Restores : DocumentState → Type 0
Restores document = (count : ℕ) → count ≤ done_groups document.log → RestoresDocument document count

one_less : (document : DocumentState) → Restores document → is_some (newest document.log) ≡ true → done_groups (after_undo document).log ≡ done_groups document.log - 1
one_less document restores some = (restores 1 (omega (arith, some_groups document.log some))).groups

-- ---- one undo

-- the text after one undo and then some more
text_front : (document : DocumentState) (count : ℕ) → fragment_text (times (suc count) after_undo document).text ≡ fragment_text (times count after_undo (after_undo document)).text
text_front document count = ap (λ (d : DocumentState). fragment_text d.text) (times-front count after_undo document)

further : (document : DocumentState) (written : List ℕ) → Restores document → is_some (newest document.log) ≡ true → ReachesBack (after_undo document) written → ReachesBack document written
further document written restores some h =
    (suc h.0, omega (arith, h.1, one_less document restores some, some_groups document.log some), text_front document h.0 ∙ h.2)

after_one : (document : DocumentState) (written : List ℕ) (count : ℕ) → Restores document → is_some (newest document.log) ≡ true → fragment_text document.text ≢ written
    → count ≤ done_groups document.log → fragment_text (times count after_undo document).text ≡ written → ReachesBack (after_undo document) written
after_one document written zero restores some other within is = absurd (other is)
after_one document written (suc count) restores some other within is =
    (count, omega (arith, within, one_less document restores some, some_groups document.log some), sym (text_front document count) ∙ is)

at_last : (document : DocumentState) (written : List ℕ) (count : ℕ) → is_some (newest document.log) ≡ false → count ≤ done_groups document.log
    → fragment_text (times count after_undo document).text ≡ written → fragment_text document.text ≡ written
at_last document written zero none within is = is
at_last document written (suc count) none within is = absurd (omega (arith, within, no_groups document.log none))

-- the same texts are reached wherever the cursor is
reached_alike : (one other : DocumentState) (written : List ℕ) → logged one ≡ logged other → ReachesBack one written → ReachesBack other written
reached_alike one other written same h =
    (h.0, subst (λ (log : Log). h.0 ≤ done_groups log) (ap (λ (l : Logged). l.log) same) h.1, ap fragment_text (sym (undos_alike h.0 one other same)) ∙ h.2)

-- ---- an undo in a text area that may be read only

undoes_parts : (state : State) → undoes state ≡ true → (state.settings.read_only ≡ false) × (is_some (newest state.document.log) ≡ true)
undoes_parts state found =
    let parts = and_parts (is_editable state) (is_some (newest state.document.log)) found in (not-true state.settings.read_only parts.0, parts.1)

undone_is : (state new : State) → undoes state ≡ true → new ≡ state_undone state → new ≡ settled Forward (with_document state (after_undo state.document))
undone_is state new found is = is ∙ cond-false state.settings.read_only state (settled Forward (with_document state (after_undo state.document))) (undoes_parts state found).0

nothing_found : (state : State) → is_editable state ≡ true → undoes state ≡ false → is_some (newest state.document.log) ≡ false
nothing_found state editable none = sym (ap (λ (b : Bool). b && is_some (newest state.document.log)) editable) ∙ none

stays_editable : (state new : State) → new ≡ state_undone state → is_editable new ≡ is_editable state
stays_editable state new is =
    ap is_editable is
    ∙ by_test (λ (s : State). is_editable s ≡ is_editable state) state.settings.read_only state (settled Forward (with_document state (after_undo state.document))) (λ barred. refl)
    (λ editable. ap (λ (s : Settings). not s.read_only) (settled_settings Forward (with_document state (after_undo state.document))))

pub steps_back : (state : State) → Restores state.document → StepsBack state
steps_back state restores =
    let document = state.document in
    record {
      here = λ written is. (0, omega arith, is);
      before = λ written new found is other.
          let some = (undoes_parts state found).1 in
          let undone = with_document state (after_undo document) in
          subst (λ (s : State). ReachesBack document written ↔ ReachesBack s.document written) (sym (undone_is state new found is ∙ settled_as Forward undone)) (
            (λ h. reached_alike (after_undo document) (record (after_undo document) { cursor = (settled Forward undone).document.cursor; anchor = (settled Forward undone).document.anchor }) written refl
                (after_one document written h.0 restores some other h.1 h.2)),
            (λ h. further document written restores some
                (reached_alike (record (after_undo document) { cursor = (settled Forward undone).document.cursor; anchor = (settled Forward undone).document.anchor }) (after_undo document) written refl h)),
          );
      fewer = λ new found is.
          let some = (undoes_parts state found).1 in
          subst (λ (s : State). done_groups s.document.log < done_groups document.log) (sym (undone_is state new found is ∙ settled_as Forward (with_document state (after_undo document))))
          (omega (arith, one_less document restores some, some_groups document.log some));
      last = λ written editable none other h. other (at_last document written h.0 (nothing_found state editable none) h.1 h.2);
      editable = stays_editable state;
    }
