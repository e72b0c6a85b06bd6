-- What the text has after the splices of calls.
use Rattle.std.proofs.Common.{◌≡◌, ◌∙◌, ◌+◌, ◌==◌, Bool, true, false, cond, List, [], ◌∷◌, ◌++◌, length, take, drop, Option, None, Some, refl, subst, sym}
use Rattle.std.specs.Prelude.{All}
use Rattle.std.proofs.lemmas.List.Elements.{All-append, All-cons, All-drop, All-nil, All-replicate, All-take}
use Rattle.textarea_data.specs.declared.range.AtomicRange.{AtomicRange}
use Rattle.textarea_ranges.specs.Lookup.{range_end, range_start}
use Rattle.textarea_text.specs.Text.{Symbol, Character}
use Rattle.textarea_text.specs.Place.{Place, index_of, inserted, removed}
use Rattle.textarea_text.specs.Splice.{Splice, applied, applied_all, IsTextBefore}
use Rattle.textarea_calls.specs.declared.call.Call.TheVariants as call
use Rattle.textarea_document.specs.DocumentState.{DocumentState}
use Rattle.textarea_document.specs.Edits.{Remove, RemoveAfter, RemoveBefore, RemoveBreak, is_at_end, is_at_start, range_after, range_before, splice_of_step}
use Rattle.textarea_document.specs.Selection.{is_selected, selection_end, selection_start}
use Rattle.textarea_document.specs.Splices.{after_splices, before_splices, break_splices, insertion_splices, range_splices_or, removal_splices, selected_splices}
use Rattle.textarea_document.specs.Target.{word_end_after, word_start_before}
use Rattle.tui_textarea.specs.Calls.{unguarded_splices}
use Rattle.tui_textarea.specs.Edits.{fitting_spaces, spaces_to_stop}
use Rattle.tui_textarea.specs.Fitting.{fitting_count}
use Rattle.tui_textarea.specs.LayoutCalls.{tab_length}
use Rattle.tui_textarea.specs.Removals.{cursor_line, in_line, is_at_line_end}
use Rattle.tui_textarea.specs.Selection.{unselected}
use Rattle.tui_textarea.specs.Splices.{line_end_splices, line_head_splices, selected_splices_or, splices_from, splices_up_to, str_splices}
use Rattle.tui_textarea.specs.Splices.{symbol_after_splices, symbol_before_splices, whole_range_splices_or, word_after_splices, word_before_splices}
use Rattle.tui_textarea.specs.Units.{earlier_start, later_end, whole_end, whole_start}
use Rattle.tui_textarea.specs.State.{State}

-- each splice that inserts, inserts only such symbols
abbrev pub InsertOnly : (Symbol → Type 0) → List Splice → Type 0
InsertOnly P [] = Unit {0}
InsertOnly P (splice ∷ rest) = (splice.inserts ≡ true → All P splice.symbols) × InsertOnly P rest

kept_by : (P : Symbol → Type 0) (inserts : Bool) (text symbols : List Symbol) (place : Place) → All P text → (inserts ≡ true → All P symbols)
    → All P (cond inserts (inserted text place symbols) (removed text place symbols))
kept_by P true text symbols place all more =
    All-append P (take (index_of text place) text) (symbols ++ drop (index_of text place) text) (All-take P (index_of text place) text all)
    (All-append P symbols (drop (index_of text place) text) (more refl) (All-drop P (index_of text place) text all))
kept_by P false text symbols place all more =
    All-append P (take (index_of text place) text) (drop (index_of text place + length symbols) text) (All-take P (index_of text place) text all)
    (All-drop P (index_of text place + length symbols) text all)

kept_over : (P : Symbol → Type 0) (text : List Symbol) (splices : List Splice) → All P text → InsertOnly P splices → All P (applied_all text splices)
kept_over P text [] all only = all
kept_over P text (splice ∷ rest) all only =
    kept_over P (applied text splice) rest (kept_by P splice.inserts text splice.symbols splice.place all only.0) only.1

-- a fact of each symbol of a text stays over splices that insert only such symbols
pub only_after_splices : (P : Symbol → Type 0) (old new : List Symbol) (splices : List Splice) → IsTextBefore old new splices → All P old → InsertOnly P splices → All P new
only_after_splices P old new splices before all only = subst (All P) before.leads (kept_over P old splices all only)

-- ---- the splices of calls

only-append : (P : Symbol → Type 0) (xs ys : List Splice) → InsertOnly P xs → InsertOnly P ys → InsertOnly P (xs ++ ys)
only-append P [] ys h k = k
only-append P (splice ∷ xs) ys h k = (h.0, only-append P xs ys h.1 k)

only-if : (P : Symbol → Type 0) (b : Bool) (xs ys : List Splice) → InsertOnly P xs → InsertOnly P ys → InsertOnly P (cond b xs ys)
only-if P true xs ys h k = h
only-if P false xs ys h k = k

-- without any where a guard leaves the call out
pub only_unless : (P : Symbol → Type 0) (barred : Bool) (splices : List Splice) → InsertOnly P splices → InsertOnly P (cond barred [] splices)
only_unless P barred splices h = only-if P barred [] splices tt h

removes : (P : Symbol → Type 0) (splice : Splice) → splice.inserts ≡ false → InsertOnly P (splice ∷ [])
removes P splice is = ((λ inserts. let no : false ≡ true = sym is ∙ inserts in cc), tt)

pub only_selected : (P : Symbol → Type 0) (document : DocumentState) → InsertOnly P (selected_splices document)
only_selected P document =
    only-if P (is_selected document) (removal_splices document (selection_start document) (selection_end document)) []
    (removes P (splice_of_step document (Remove (selection_start document) (selection_end document))) refl) tt

only_insertion : (P : Symbol → Type 0) (document : DocumentState) (symbols : List Symbol) → All P symbols → InsertOnly P (insertion_splices document symbols)
only_insertion P document [] all = tt
only_insertion P document (symbol ∷ symbols) all = ((λ inserts. all), tt)

pub only_str : (P : Symbol → Type 0) (state : State) (symbols : List Symbol) → All P symbols → InsertOnly P (str_splices state symbols)
only_str P state symbols all =
    only-append P (selected_splices state.document) (insertion_splices (unselected state).document symbols) (only_selected P state.document)
    (only_insertion P (unselected state).document symbols all)

only_range_or : (P : Symbol → Type 0) (found : Option AtomicRange) (document : DocumentState) (other : List Splice) → InsertOnly P other → InsertOnly P (range_splices_or found document other)
only_range_or P None document other h = h
only_range_or P (Some range) document other h = removes P (splice_of_step document (Remove (range_start range) (range_end range))) refl

only_before : (P : Symbol → Type 0) (document : DocumentState) → InsertOnly P (before_splices document)
only_before P document =
    only_range_or P (range_before document) document (cond (is_at_start document) [] (splice_of_step document RemoveBefore ∷ []))
    (only-if P (is_at_start document) [] (splice_of_step document RemoveBefore ∷ []) tt (removes P (splice_of_step document RemoveBefore) refl))

only_after : (P : Symbol → Type 0) (document : DocumentState) → InsertOnly P (after_splices document)
only_after P document =
    only_range_or P (range_after document) document (cond (is_at_end document) [] (splice_of_step document RemoveAfter ∷ []))
    (only-if P (is_at_end document) [] (splice_of_step document RemoveAfter ∷ []) tt (removes P (splice_of_step document RemoveAfter) refl))

only_removal : (P : Symbol → Type 0) (document : DocumentState) (from to : Place) → InsertOnly P (removal_splices document from to)
only_removal P document from to = removes P (splice_of_step document (Remove from to)) refl

only_break : (P : Symbol → Type 0) (document : DocumentState) → InsertOnly P (break_splices document)
only_break P document =
    only-if P (document.cursor.0 == 0) [] (splice_of_step document RemoveBreak ∷ []) tt (removes P (splice_of_step document RemoveBreak) refl)

-- back to a position of the line, or at its start the break before it
only_back_to : (P : Symbol → Type 0) (document : DocumentState) (from : Place)
    → InsertOnly P (cond (document.cursor.1 == 0) (break_splices document) (removal_splices document from document.cursor))
only_back_to P document from =
    only-if P (document.cursor.1 == 0) (break_splices document) (removal_splices document from document.cursor) (only_break P document) (only_removal P document from document.cursor)

only_selected_or : (P : Symbol → Type 0) (document : DocumentState) (other : List Splice) → InsertOnly P other → InsertOnly P (selected_splices_or document other)
only_selected_or P document other h = only-if P (is_selected document) (selected_splices document) other (only_selected P document) h

-- what each call inserts: a tab, as a character or as spaces; nothing
pub only_tab : (P : Symbol → Type 0) (state : State) → P (Character 9) → P (Character 32) → InsertOnly P (unguarded_splices state call.InsertTab)
only_tab P state tab space =
    let left = unselected state in
    let spaces = fitting_spaces left (tab_length state.document) in
    only-if P (tab_length state.document == 0) (str_splices state []) (cond state.settings.hard_tab_indent (str_splices state (Character 9 ∷ [])) (str_splices state spaces))
    (only_str P state [] (All-nil P))
    (only-if P state.settings.hard_tab_indent (str_splices state (Character 9 ∷ [])) (str_splices state spaces)
    (only_str P state (Character 9 ∷ []) (All-cons P (Character 9) [] tab (All-nil P)))
    (only_str P state spaces (All-replicate P (fitting_count left.settings.max_chars (length left.document.text) (spaces_to_stop left.document (tab_length state.document))) (Character 32) space)))

only_whole_range_or : (P : Symbol → Type 0) (found : Option AtomicRange) (state : State) (other : List Splice) → InsertOnly P other → InsertOnly P (whole_range_splices_or found state other)
only_whole_range_or P None state other h = h
only_whole_range_or P (Some range) state other h = only_removal P state.document (whole_start state (range_start range)) (whole_end state (range_end range))

only_from : (P : Symbol → Type 0) (found : Option Place) (document : DocumentState) → InsertOnly P (splices_from found document)
only_from P None document = only_before P document
only_from P (Some start) document = only_removal P document start document.cursor

only_up_to : (P : Symbol → Type 0) (found : Option Place) (document : DocumentState) → InsertOnly P (splices_up_to found document)
only_up_to P None document = only_after P document
only_up_to P (Some stop) document = only_removal P document document.cursor stop

only_symbol_after : (P : Symbol → Type 0) (state : State) → InsertOnly P (symbol_after_splices state)
only_symbol_after P state = only_up_to P (later_end state) state.document

pub only_delete_char : (P : Symbol → Type 0) (state : State) → InsertOnly P (unguarded_splices state call.DeleteChar)
only_delete_char P state = only_selected_or P state.document (symbol_before_splices state) (only_from P (earlier_start state) state.document)

pub only_delete_next_char : (P : Symbol → Type 0) (state : State) → InsertOnly P (unguarded_splices state call.DeleteNextChar)
only_delete_next_char P state = only_selected_or P state.document (symbol_after_splices state) (only_symbol_after P state)

-- up to a position of the line, or at its end the symbol after it
only_on_to : (P : Symbol → Type 0) (state : State) (to : Place)
    → InsertOnly P (cond (is_at_line_end state.document) (symbol_after_splices state) (removal_splices state.document state.document.cursor to))
only_on_to P state to =
    only-if P (is_at_line_end state.document) (symbol_after_splices state) (removal_splices state.document state.document.cursor to) (only_symbol_after P state)
    (only_removal P state.document state.document.cursor to)

pub only_line_end : (P : Symbol → Type 0) (state : State) → InsertOnly P (unguarded_splices state call.DeleteLineByEnd)
only_line_end P state =
    only_selected_or P state.document (line_end_splices state) (only_on_to P state (in_line state.document (length (cursor_line state.document))))

pub only_line_head : (P : Symbol → Type 0) (state : State) → InsertOnly P (unguarded_splices state call.DeleteLineByHead)
only_line_head P state = only_selected_or P state.document (line_head_splices state.document) (only_back_to P state.document (in_line state.document 0))

pub only_word_before : (P : Symbol → Type 0) (state : State) → InsertOnly P (unguarded_splices state call.DeleteWord)
only_word_before P state =
    let document = state.document in
    let from = whole_start state (in_line document (word_start_before (cursor_line document) document.cursor.1)) in
    only_selected_or P document (word_before_splices state)
    (only_whole_range_or P (range_before document) state (cond (document.cursor.1 == 0) (break_splices document) (removal_splices document from document.cursor)) (only_back_to P document from))

pub only_word_after : (P : Symbol → Type 0) (state : State) → InsertOnly P (unguarded_splices state call.DeleteNextWord)
only_word_after P state =
    let document = state.document in
    let to = whole_end state (in_line document (word_end_after (cursor_line document) document.cursor.1)) in
    only_selected_or P document (word_after_splices state)
    (only_whole_range_or P (range_after document) state (cond (is_at_line_end document) (symbol_after_splices state) (removal_splices document document.cursor to)) (only_on_to P state to))
