-- What actions leave of the text, by the laws of splices, and where inputs at their times lead.
use Rattle.std.proofs.Common.{◌≡◌, ◌∙◌, ℕ, Bool, true, false, cond, List, [], ◌∷◌, ◌++◌, inl, inr, refl, sym, subst, ap, ⊎_elim}
use Rattle.std.specs.Duration.{as_nanos}
use Rattle.std.specs.declared.time.Duration.{Duration}
use Rattle.std.proofs.lemmas.List.Elements.{All-cons, All-nil}
use Rattle.textarea_data.specs.declared.input.Input.{Input}
use Rattle.textarea_text.specs.Splice.{IsTextBefore, Splice}
use Rattle.textarea_text.specs.Text.{Symbol, Break, Character}
use Rattle.textarea_calls.specs.declared.action.Action.{Action}
use Rattle.textarea_calls.specs.declared.action.Action.TheVariants as action
use Rattle.textarea_document.specs.DocumentState.{DocumentState}
use Rattle.textarea_document.specs.RangesOverSplices.{RangesFollowPast, RangesFollowSplices, RangesStayWhole}
use Rattle.textarea_document.specs.Sound.{IsSound}
use Rattle.textarea_document.specs.Splices.{selected_splices}
use Rattle.tui_textarea.specs.ActionTexts.{AllPass, InsertsPassing, IsAfterAllTimed, IsAfterTimed, IsLeftByAction}
use Rattle.tui_textarea.specs.CallSplices.{OfSplicesOutOfMemory, splices_by}
use Rattle.tui_textarea.specs.Edits.{breaks_line}
use Rattle.tui_textarea.specs.Guards.{admitted_over_selection}
use Rattle.tui_textarea.specs.Input.{IsAfterAction, IsInputOutOfMemory, asked_by, call_of_action}
use Rattle.tui_textarea.specs.Splices.{str_splices}
use Rattle.tui_textarea.specs.State.{State}
use Rattle.tui_textarea.proofs.Acting.{ByAct, acts_by, any_left}
use Rattle.tui_textarea.proofs.EachSymbol.{InsertOnly, only_after_splices, only_delete_char, only_delete_next_char, only_line_end, only_line_head, only_selected, only_str, only_tab, only_unless, only_word_after, only_word_before}
use Rattle.tui_textarea.proofs.RangesOverActions.{at_once_of, past_follows, reckoning_of}
use Rattle.tui_textarea.proofs.RangesOverCalls.{TheLaws}
use Rattle.tui_textarea.proofs.Runs.{OneInput}
use Rattle.textarea_data.specs.declared.range.AtomicCursorBias.TheVariants.{Forward}
use Rattle.tui_textarea.specs.Selection.{unselected}
use Rattle.tui_textarea.specs.Units.{settled}
use Rattle.tui_textarea.proofs.Settling.{layout_and_ranges, settled_layout}
use Rattle.tui_textarea.proofs.Stepping.{selected_by}

-- ---- the splices of an action

whole : (asked : Action) (old new : DocumentState) (splices : List Splice) → ByAct RangesStayWhole RangesFollowPast asked old splices new → IsTextBefore old.text new.text splices
whole action.Undo old new splices h = h.text
whole action.Redo old new splices h = h.text
whole asked old new splices h = h.0.text

-- they lead from the old text to the new one
made_follows : (laws : TheLaws) (old new : State) (asked : Action) → IsSound old.document → IsAfterAction old asked new → IsTextBefore old.document.text new.document.text (splices_by old asked)
made_follows laws old new asked sound made =
    whole asked old.document new.document (splices_by old asked)
    (acts_by RangesStayWhole RangesStayWhole RangesFollowPast (reckoning_of laws.edited) (at_once_of laws.edited) (past_follows laws.undone laws.redone) old new asked sound made)

-- the same of an action that ran out of memory: it made no splice, or removed the selected text
left_follows : (laws : TheLaws) (old new : State) (asked : Action) → IsSound old.document → IsInputOutOfMemory old asked new
    → OfSplicesOutOfMemory old (λ splices. RangesFollowSplices old.document splices new.document)
left_follows laws old new asked sound left =
    ⊎_elim
    (λ same. inl ((reckoning_of laws.edited).none old.document new.document (ap (λ (s : State). layout_and_ranges s.document) same)).0)
    (λ gone. inr (subst (λ (s : State). RangesFollowSplices old.document (selected_splices old.document) s.document) (sym gone)
    ((reckoning_of laws.edited).same old.document (unselected old).document (settled Forward (unselected old)).document (selected_splices old.document) (settled_layout Forward (unselected old))
    (selected_by RangesStayWhole (reckoning_of laws.edited) old.document old.time sound).0).0))
    (any_left old new (call_of_action asked) left)

-- ---- symbols

abbrev pub Passes : (Symbol → Bool) → Symbol → Type 0
Passes test symbol = test symbol ≡ true

by_char : (test : Symbol → Bool) (state : State) (c : ℕ) (breaks : Bool) → cond breaks (test Break) (test (Character c)) ≡ true
    → InsertOnly (Passes test) (cond breaks (str_splices state (Break ∷ [])) (str_splices state (Character c ∷ [])))
by_char test state c true h = only_str (Passes test) state (Break ∷ []) (All-cons (Passes test) Break [] h (All-nil (Passes test)))
by_char test state c false h = only_str (Passes test) state (Character c ∷ []) (All-cons (Passes test) (Character c) [] h (All-nil (Passes test)))

inserts_only : (test : Symbol → Bool) (state : State) (asked : Action) → InsertsPassing test state asked → InsertOnly (Passes test) (splices_by state asked)
inserts_only test state (action.InsertChar c) h = only_unless (Passes test) _ _ (by_char test state c (breaks_line c) h)
inserts_only test state action.InsertNewline h = only_unless (Passes test) _ _ (only_str (Passes test) state (Break ∷ []) (All-cons (Passes test) Break [] h (All-nil (Passes test))))
inserts_only test state action.InsertTab h = only_unless (Passes test) _ _ (only_tab (Passes test) state h.0 h.1)
inserts_only test state action.Paste h = only_unless (Passes test) _ _ (only_str (Passes test) state (admitted_over_selection state state.yank) h)
inserts_only test state action.DeleteChar h = only_unless (Passes test) _ _ (only_delete_char (Passes test) state)
inserts_only test state action.DeleteNextChar h = only_unless (Passes test) _ _ (only_delete_next_char (Passes test) state)
inserts_only test state action.DeleteLineByEnd h = only_unless (Passes test) _ _ (only_line_end (Passes test) state)
inserts_only test state action.DeleteLineByHead h = only_unless (Passes test) _ _ (only_line_head (Passes test) state)
inserts_only test state action.DeleteWord h = only_unless (Passes test) _ _ (only_word_before (Passes test) state)
inserts_only test state action.DeleteNextWord h = only_unless (Passes test) _ _ (only_word_after (Passes test) state)
inserts_only test state action.Cut h = only_unless (Passes test) _ _ (only_selected (Passes test) state.document)
inserts_only test state action.Undo h = absurd h
inserts_only test state action.Redo h = absurd h
inserts_only test state asked h = tt

pub symbols_pass : (laws : TheLaws) (test : Symbol → Bool) (old new : State) (asked : Action) → IsSound old.document → IsLeftByAction old asked new → InsertsPassing test old asked
    → AllPass test old.document.text → AllPass test new.document.text
symbols_pass laws test old new asked sound (inl made) inserts all =
    only_after_splices (Passes test) old.document.text new.document.text (splices_by old asked) (made_follows laws old new asked sound made) all (inserts_only test old asked inserts)
symbols_pass laws test old new asked sound (inr left) inserts all =
    ⊎_elim
    (λ none. only_after_splices (Passes test) old.document.text new.document.text [] none.text all tt)
    (λ gone. only_after_splices (Passes test) old.document.text new.document.text (selected_splices old.document) gone.text all (only_selected (Passes test) old.document))
    (left_follows laws old new asked sound left)

-- ---- inputs at their times

pub one_replay : OneInput → (timed : List (Input × Duration)) (old first second : State) → IsAfterAllTimed old timed first → IsAfterAllTimed old timed second → first ≡ second
one_replay one [] old first second e f = e ∙ sym f
one_replay one (next ∷ rest) old first second e f =
    one_replay one rest e.0 first second e.2
    (subst (λ (s : State). IsAfterAllTimed s rest second) (one (record old { time = as_nanos next.1 }) f.0 e.0 (asked_by next.0) f.1 e.1) f.2)

pub one_more : (timed : List (Input × Duration)) (next : Input × Duration) (old between new : State) → IsAfterAllTimed old timed between → IsAfterTimed between next new
    → IsAfterAllTimed old (timed ++ next ∷ []) new
one_more [] next old between new so_far made = (new, subst (λ (s : State). IsAfterTimed s next new) so_far made, refl)
one_more (first ∷ timed) next old between new so_far made = (so_far.0, so_far.1, one_more timed next so_far.0 between new so_far.2 made)
