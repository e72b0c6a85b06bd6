-- The edits of one call in a group: what the group changes, and what it doesn't.
use Rattle.std.proofs.Common.{◌≡◌, ◌∙◌, ◌&&◌, ◌==◌, ℕ, Bool, true, false, cond, not, List, [], ◌∷◌, ◌++◌, Result, Ok, Err, ap, inl, inr, length, refl, replicate, subst, sym, ⊎_elim}
use Rattle.std.specs.Result.{OnErr, OnOk}
use Rattle.std.proofs.Math.Bool.{and-false}
use Rattle.textarea_history.specs.Groups.{is_open, opened}
use Rattle.textarea_history.specs.Log.{Log, appended_log, recorded}
use Rattle.textarea_history.specs.declared.history.groups.Group.{Group}
use Rattle.textarea_history.specs.declared.history.groups.Group.TheVariants.{Closed, Empty, Filled, Forgotten}
use Rattle.textarea_text.specs.Splice.{Splice}
use Rattle.textarea_text.specs.Text.{Break, Character, Symbol}
use Rattle.textarea_document.specs.DocumentState.{DocumentState}
use Rattle.textarea_document.specs.Edits.{between_removed, nothing_inserted, splice_of_step, Remove}
use Rattle.textarea_document.specs.Selection.{is_selected, selected_removed, selection_end, selection_start}
use Rattle.textarea_document.specs.Splices.{insertion_splices, selected_splices}
use Rattle.textarea_document.specs.Outcomes.{unanchored}
use Rattle.textarea_document.specs.PastRanges.{PastRanges, ranges_to_remember, with_newest}
use Rattle.tui_textarea.specs.Fitting.{fitting_beside, fitting_count, fitting_selection}
use Rattle.tui_textarea.specs.Edits.{breaks_line, fitting_spaces, spaces_to_stop, str_inserted, symbols_or_none_inserted, tab_inserted, tab_or_spaces_inserted}
use Rattle.tui_textarea.specs.Grouping.{call_begun, call_ended, closed_if, opens_group, with_group}
use Rattle.tui_textarea.specs.LayoutCalls.{tab_length}
use Rattle.tui_textarea.specs.Selection.{IsInsertOutOfMemory, selection_cancelled, unselected}
use Rattle.tui_textarea.specs.Splices.{char_splices, str_splices, tab_splices}
use Rattle.textarea_data.specs.declared.range.AtomicCursorBias.TheVariants.{Forward}
use Rattle.tui_textarea.specs.Units.{settled}
use Rattle.tui_textarea.proofs.Settling.{closed_settled}
use Rattle.tui_textarea.specs.State.{State, with_document}

-- ---- the removal of the selected text

-- a document with another log
abbrev pub with_log : DocumentState → Log → DocumentState
with_log document log = record document { log = log }

-- the same with other remembered ranges, as far as edits of this log have them
abbrev with_history : DocumentState → Log → PastRanges → DocumentState
with_history document log past = record document { log = log; past_ranges = past }

-- a document that has all but these of the other
abbrev HasAllBeside : DocumentState → DocumentState → Type 0
HasAllBeside document other = document ≡ with_history other document.log document.past_ranges

removed_beside : (selected : Bool) (document : DocumentState) (log : Log) (now : ℕ) →
    HasAllBeside (cond selected (between_removed (with_log document log) (selection_start document) (selection_end document) now) (with_log document log))
    (cond selected (between_removed document (selection_start document) (selection_end document) now) document)
unfolding between_removed
removed_beside true document log now = refl
removed_beside false document log now = refl

-- the log changes nothing else of it
pub unselected_beside : (state : State) → HasAllBeside (unselected (call_begun state)).document (unselected state).document
unselected_beside state = removed_beside (is_selected state.document) state.document (call_begun state).document.log state.time

-- ---- the splices are those without a group

insertion_beside : (document : DocumentState) (log : Log) (past : PastRanges) (symbols : List Symbol) → insertion_splices (with_history document log past) symbols ≡ insertion_splices document symbols
insertion_beside document log past [] = refl
insertion_beside document log past (symbol ∷ symbols) = refl

pub str_beside : (state : State) (symbols : List Symbol) → str_splices (call_begun state) symbols ≡ str_splices state symbols
str_beside state symbols =
    let begun = (unselected (call_begun state)).document in
    ap (λ (d : DocumentState). selected_splices state.document ++ insertion_splices d symbols) (unselected_beside state)
    ∙ ap (λ (s : List Splice). selected_splices state.document ++ s) (insertion_beside (unselected state).document begun.log begun.past_ranges symbols)

-- what fits in place of the selected text
pub fitting_beside_group : (state : State) (symbols : List Symbol) → fitting_selection (call_begun state) symbols ≡ fitting_selection state symbols
fitting_beside_group state symbols =
    ap (λ (d : DocumentState). fitting_beside state.settings.max_chars (length d.text) symbols) (unselected_beside state)

pub char_beside : (state : State) (c : ℕ) → char_splices (call_begun state) c ≡ char_splices state c
char_beside state c =
    ap (λ (s : List Splice). cond (breaks_line c) s (str_splices (call_begun state) (Character c ∷ []))) (str_beside state (Break ∷ []))
    ∙ ap (λ (s : List Splice). cond (breaks_line c) (str_splices state (Break ∷ [])) s) (str_beside state (Character c ∷ []))

-- a tab as spaces before this position
abbrev spaced : State → State → List Splice
spaced state left = str_splices state (fitting_spaces left (tab_length state.document))

spaced_beside : (state : State) → spaced (call_begun state) (unselected (call_begun state)) ≡ spaced state (unselected state)
spaced_beside state =
    let columns = tab_length state.document in
    let symbols = fitting_spaces (unselected (call_begun state)) columns in
    str_beside state symbols
    ∙ ap (λ (d : DocumentState). str_splices state (replicate (fitting_count state.settings.max_chars (length d.text) (spaces_to_stop d columns)) (Character 32))) (unselected_beside state)

pub tab_beside : (state : State) → tab_splices (call_begun state) ≡ tab_splices state
tab_beside state =
    let begun = call_begun state in
    let none = tab_length state.document == 0 in
    let hard = state.settings.hard_tab_indent in
    ap (λ (s : List Splice). cond none s (cond hard (str_splices begun (Character 9 ∷ [])) (spaced begun (unselected begun)))) (str_beside state [])
    ∙ ap (λ (s : List Splice). cond none (str_splices state []) (cond hard s (spaced begun (unselected begun)))) (str_beside state (Character 9 ∷ []))
    ∙ ap (λ (s : List Splice). cond none (str_splices state []) (cond hard (str_splices state (Character 9 ∷ [])) s)) (spaced_beside state)

-- ---- a group of one edit

-- an edit in a group that is opened for it and then closed is one without a group
closed_again : (log : Log) (edit : Splice) (now : ℕ) → log.group ≡ Closed →
    record (recorded (record log { group = Empty }) edit false now) { group = Closed } ≡ recorded log edit false now
closed_again log edit now closed = by (log.maximum == 0) ∙ ap (λ (g : Group). recorded (record log { group = g }) edit false now) (sym closed)
  where
    by : (none : Bool) →
        record (cond none (record log { group = Empty }) (appended_log (record log { group = Empty }) edit false now)) { group = Closed } ≡
        cond none (record log { group = Closed }) (appended_log (record log { group = Closed }) edit false now)
    by true = refl
    by false = refl

-- a call opens a group only if none is open
closed_before : (grouping : Bool) (group : Group) → (grouping && not (is_open group)) ≡ true → group ≡ Closed
closed_before grouping Closed e = refl
closed_before grouping Empty e = absurd (cc (e, and-false grouping))
closed_before grouping Filled e = absurd (cc (e, and-false grouping))
closed_before grouping Forgotten e = absurd (cc (e, and-false grouping))

-- the state in which the splices are made, if the call opens a group or not
abbrev begun_if : Bool → State → State
begun_if opens state = with_group state (cond opens (opened state.document.log.group) state.document.log.group)

unselected_if : (opens : Bool) (old : State) → (opens ≡ true → old.document.log.group ≡ Closed) → closed_if opens (unselected (begun_if opens old)) ≡ unselected old
unfolding between_removed
unselected_if false old closed = refl
unselected_if true old closed = by (is_selected old.document)
  where
    document : DocumentState
    document = old.document

    begun : DocumentState
    begun = (begun_if true old).document

    gone : (left : DocumentState) → DocumentState
    gone left = between_removed left (selection_start document) (selection_end document) old.time

    splice : Splice
    splice = splice_of_step document (Remove (selection_start document) (selection_end document))

    empty : record (recorded begun.log splice false old.time) { group = Closed } ≡ recorded document.log splice false old.time
    empty =
        ap (λ (g : Group). record (recorded (record document.log { group = opened g }) splice false old.time) { group = Closed }) (closed refl)
        ∙ closed_again document.log splice old.time (closed refl)

    -- the ranges that are remembered after the removal, by the log after it
    past : Log → PastRanges
    past log =
        with_newest document.past_ranges (ranges_to_remember document.past_ranges document.ranges document.log splice false old.time) (length document.log.undone) (length log.done)

    by : (selected : Bool) → with_group (with_document old (cond selected (gone begun) begun)) Closed ≡ with_document old (cond selected (gone document) document)
    by true = ap (λ (l : Log). with_document old (with_history (gone document) l (past l))) empty
    by false = ap (with_group old) (sym (closed refl))

-- so after the removal of the selected text in a group of its own nothing of the group is left
pub unselected_closed : (old : State) → call_ended old (unselected (call_begun old)) ≡ unselected old
unselected_closed old = unselected_if (opens_group old) old (closed_before old.settings.undo_grouping old.document.log.group)

begun_closed : (old : State) → call_ended old (call_begun old) ≡ old
begun_closed old = by (opens_group old) (closed_before old.settings.undo_grouping old.document.log.group)
  where
    by : (opens : Bool) → (opens ≡ true → old.document.log.group ≡ Closed) → closed_if opens (begun_if opens old) ≡ old
    by false closed = refl
    by true closed = ap (with_group old) (sym (closed refl))

pub left_closed : (old new : State) → IsInsertOutOfMemory (call_begun old) new → IsInsertOutOfMemory old (call_ended old new)
left_closed old new h =
    ⊎_elim
    (λ same. inl (ap (call_ended old) same ∙ begun_closed old))
    (λ gone. inr (ap (call_ended old) gone ∙ closed_settled (opens_group old) Forward (unselected (call_begun old)) ∙ ap (settled Forward) (unselected_closed old)))
    h

-- and the same if after it a step is made that has nothing to do with the log and remembered ranges
closed_beside : (step : DocumentState → DocumentState) → ((document : DocumentState) (log : Log) (past : PastRanges) → step (with_history document log past) ≡ with_history (step document) log past) →
    (old : State) → call_ended old (with_document old (step (unselected (call_begun old)).document)) ≡ with_document old (step (unselected old).document)
closed_beside step beside old =
    let left = (unselected old).document in
    let begun = (unselected (call_begun old)).document in
    ap (λ (d : DocumentState). call_ended old (with_document old (step d))) (unselected_beside old)
    ∙ ap (λ (d : DocumentState). call_ended old (with_document old d)) (beside left begun.log begun.past_ranges)
    ∙ ap (λ (s : State). with_document old (with_history (step left) s.document.log s.document.past_ranges)) (unselected_closed old)
    ∙ ap (with_document old) (sym (beside left left.log left.past_ranges))

pub nothing_closed : (old : State) → str_inserted old [] ≡ symbols_or_none_inserted (unselected old) []
nothing_closed old = closed_beside nothing_inserted (λ document log past. refl) old

pub cancelled_closed : (old : State) → call_ended old (selection_cancelled (unselected (call_begun old))) ≡ selection_cancelled (unselected old)
cancelled_closed old = closed_beside unanchored (λ document log past. refl) old

-- so nothing is inserted, and no tab
pub nothing_after : {view old : State} → view ≡ old → (removed new : DocumentState) → removed ≡ selected_removed view.document view.time → new ≡ nothing_inserted removed →
    with_document view new ≡ str_inserted old []
nothing_after {view} {old} is removed new gone new_is =
    ap (with_document view) (new_is ∙ ap nothing_inserted gone)
    ∙ ap (λ (s : State). with_document s (nothing_inserted (selected_removed s.document s.time))) is
    ∙ sym (nothing_closed old)

pub tab_none : (old : State) → tab_length old.document ≡ 0 → selection_cancelled (unselected old) ≡ tab_inserted old
tab_none old none =
    sym (ap (λ (n : ℕ). call_ended old (tab_or_spaces_inserted (unselected (call_begun old)) n)) none ∙ cancelled_closed old)

-- ---- a call between the two

-- a call that succeeds
pub ended_ok : {T E : Type 0} (r : Result T E) (step : State → State) (old mid : State) {begun new : State} {opens : Bool} → opens ≡ opens_group old → begun ≡ call_begun old →
    new ≡ closed_if opens mid → OnOk r (mid ≡ settled Forward (step begun)) → OnOk r (new ≡ settled Forward (call_ended old (step (call_begun old))))
ended_ok (Ok x) step old mid {opens = opens} opens_is begun_is new_is h =
    new_is ∙ ap (closed_if opens) (h ∙ ap (λ (s : State). settled Forward (step s)) begun_is) ∙ ap (λ (b : Bool). closed_if b (settled Forward (step (call_begun old)))) opens_is
    ∙ closed_settled (opens_group old) Forward (step (call_begun old))
ended_ok (Err e) step old mid opens_is begun_is new_is h = h

-- one that runs out of memory
pub ended_err : {T E : Type 0} (r : Result T E) (old mid : State) {begun new : State} {opens : Bool} → opens ≡ opens_group old → begun ≡ call_begun old → new ≡ closed_if opens mid →
    OnErr r (IsInsertOutOfMemory begun mid) → OnErr r (IsInsertOutOfMemory old new)
ended_err (Ok x) old mid opens_is begun_is new_is h = h
ended_err (Err e) old mid opens_is begun_is new_is h =
    subst (IsInsertOutOfMemory old) (sym (new_is ∙ ap (λ (b : Bool). closed_if b mid) opens_is))
    (left_closed old mid (subst (λ (s : State). IsInsertOutOfMemory s mid) begun_is h))

-- ---- the open group

-- the document with this as its open group
abbrev pub in_group : DocumentState → Group → DocumentState
in_group document group = with_log document (record document.log { group = group })

-- the group that a call opens has no edit
pub empty_begun : (state : State) → state.settings.undo_grouping ≡ true → is_open state.document.log.group ≡ false → (call_begun state).document.log.group ≡ Empty
empty_begun state grouping closed =
    let group = state.document.log.group in
    let opens : opens_group state ≡ true = ap (λ b. b && not (is_open group)) grouping ∙ ap not closed in
    ap (λ b. cond b (opened group) group) opens ∙ ap opened (closed_before state.settings.undo_grouping group opens)
