-- A copy and a paste after it.
use Rattle.std.proofs.Common.{◌≡◌, ℕ, ◌+◌, ◌<◌, ◌==◌, ◌&&◌, ◌||◌, nat_lt, cond, map, Bool, true, false, List, [], ◌∷◌, length, Option, None, Some, ap, sym, refl, subst, take-append-drop, ◌∙◌, arith}
use Rattle.std.specs.Option.{IfSome, MatchOption}
use Rattle.std.proofs.lemmas.Bool.Decides.{nat_tests}
use Rattle.textarea_text.specs.Text.{Symbol}
use Rattle.textarea_text.specs.Place.{Place, IsPlace, end, index_of, inserted, is_before}
use Rattle.textarea_document.specs.DocumentState.{DocumentState}
use Rattle.textarea_document.specs.Outcomes.{unanchored}
use Rattle.textarea_document.specs.Edits.{insertion_place, has_symbols, between_removed}
use Rattle.textarea_document.specs.Selection.{is_selected, selected, selection_end, selection_start}
use Rattle.tui_textarea.specs.State.{State, with_document}
use Rattle.tui_textarea.specs.Edits.{symbols_or_none_inserted, str_inserted}
use Rattle.tui_textarea.specs.Grouping.{call_begun, call_ended}
use Rattle.tui_textarea.specs.Fitting.{fitting_beside, is_allowed}
use Rattle.tui_textarea.specs.Guards.{admitted, admitted_over_selection, is_editable, spaced, unless_read_only}
use Rattle.tui_textarea.specs.TextAreaLaw.{PastesCopy, copied_and_pasted, copy_pasted}
use Rattle.tui_textarea.specs.Selection.{selection_copied, selection_cancelled}
use Rattle.std.proofs.Math.Bool.{and-false}
use Rattle.std.proofs.lemmas.Bool.{cond-false, not-true}
use Rattle.std.proofs.lemmas.List.{length-map}
use Rattle.textarea_document.proofs.Betweens.{between_some}
use Rattle.tui_textarea.proofs.Admitted.{all_fits}
use Rattle.tui_textarea.proofs.Cases.{by_test}

not_less : (n : ℕ) → nat_lt n n ≡ false
not_less n = grind (arith, nat_tests)

not_before : (place : Place) → is_before place place ≡ false
not_before place =
    ap (λ b. b || ((place.0 == place.0) && nat_lt place.1 place.1)) (not_less place.0)
    ∙ ap (λ b. (place.0 == place.0) && b) (not_less place.1)
    ∙ and-false (place.0 == place.0)

-- nothing is selected if no selection is open
none_selected : (document : DocumentState) → is_selected (unanchored document) ≡ false
none_selected document =
    let place = document.cursor in
    ap (λ b. is_before (cond b place place) (cond b place place)) (not_before place) ∙ not_before place

filled : (symbols : List Symbol) → 0 < length symbols → has_symbols symbols ≡ true
filled [] h = absurd (omega (arith, h))
filled (symbol ∷ symbols) h = refl

-- a space takes the place of each break
admitted-length : (state : State) (symbols : List Symbol) → length (admitted state symbols) ≡ length symbols
admitted-length state symbols =
    by_test (λ (s : List Symbol). length s ≡ length symbols) state.settings.single_line (map spaced symbols) symbols (λ single. length-map symbols spaced) (λ several. refl)

pub pastes_copy : (state : State) → is_editable state ≡ true → is_selected state.document ≡ true
    → IsPlace state.document.text (selection_end state.document)
    → index_of state.document.text (selection_start state.document) < index_of state.document.text (selection_end state.document)
    → PastesCopy state
pastes_copy state editable e place ordered =
    record {
      text = ap (λ (s : State). s.document.text) reached ∙ text_of (copy_pasted state);
      cursor = ap (λ (s : State). s.document.cursor) reached ∙ cursor_of (copy_pasted state);
      returned =
          ap (λ (s : State). is_editable s && has_symbols (admitted_over_selection s s.yank)) copied_is
          ∙ ap (λ b. b && has_symbols (admitted_over_selection after after.yank)) editable ∙ ap has_symbols fits;
      whole = λ room. all_fits state.settings.max_chars (length state.document.text) (admitted state (selected state.document))
          (ap (λ (n : ℕ). is_allowed state.settings.max_chars (length state.document.text + n)) (admitted-length state (selected state.document)) ∙ room);
      some = filled (admitted state (selected state.document)) (omega (arith, some, admitted-length state (selected state.document)));
    }
  where
    after : State
    after = record (selection_cancelled state) { yank = selected state.document }

    copied_is : selection_copied state ≡ after
    copied_is = ap (λ b. cond b (record (selection_cancelled state) { yank = selected state.document }) (selection_cancelled state)) e

    begun : State
    begun = call_begun after

    -- the document without what is selected, if a text is
    removed_if : DocumentState → Bool → DocumentState
    removed_if document b = cond b (between_removed document (selection_start document) (selection_end document) state.time) document

    -- nothing is selected after the copy
    fits : admitted_over_selection after after.yank ≡ copy_pasted state
    fits =
        ap (λ (b : Bool). fitting_beside state.settings.max_chars (length (removed_if after.document b).text) (admitted state (selected state.document))) (none_selected state.document)

    reached : copied_and_pasted state ≡ call_ended after (symbols_or_none_inserted begun (copy_pasted state))
    reached =
        ap (λ (s : State). unless_read_only s (str_inserted s (admitted_over_selection s s.yank))) copied_is
        ∙ cond-false state.settings.read_only after (str_inserted after (admitted_over_selection after after.yank)) (not-true state.settings.read_only editable)
        ∙ ap (λ b. call_ended after (symbols_or_none_inserted (with_document begun (removed_if begun.document b)) (admitted_over_selection after after.yank))) (none_selected state.document)
        ∙ ap (λ (s : List Symbol). call_ended after (symbols_or_none_inserted begun s)) fits

    some : 0 < length (selected state.document)
    some = between_some state.document.text (selection_start state.document) (selection_end state.document) place ordered

    text_of : (symbols : List Symbol) → (call_ended after (symbols_or_none_inserted begun symbols)).document.text ≡ inserted state.document.text (insertion_place state.document) symbols
    text_of [] = sym (take-append-drop (index_of state.document.text (insertion_place state.document)) state.document.text)
    text_of (symbol ∷ symbols) = refl

    cursor_of : (symbols : List Symbol) → (call_ended after (symbols_or_none_inserted begun symbols)).document.cursor ≡ end (insertion_place state.document) symbols
    cursor_of [] = refl
    cursor_of (symbol ∷ symbols) = refl

-- the facts of the two ends of selected text, if they were found
pub ends_known : (document : DocumentState) (found : Option (Place × Place)) → is_selected document ≡ true
    → MatchOption found (is_selected document ≡ false) (λ ends. is_selected document ≡ true)
    → IfSome found (λ ends. ends ≡ (selection_start document, selection_end document))
    → IfSome found (λ ends. IsPlace document.text ends.0 × IsPlace document.text ends.1)
    → IfSome found (λ ends. index_of document.text ends.0 < index_of document.text ends.1)
    → IsPlace document.text (selection_end document)
    × (index_of document.text (selection_start document) < index_of document.text (selection_end document))
ends_known document None e none is places ordered = absurd (let no : false ≡ true = sym none ∙ e in cc)
ends_known document (Some ends) e some is places ordered = (
  subst (λ (p : Place × Place). IsPlace document.text p.1) is places.1,
  subst (λ (p : Place × Place). index_of document.text p.0 < index_of document.text p.1) is ordered,
)
