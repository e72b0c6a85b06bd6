-- All but the layout of a document after edits doesn't depend on its layout.
use Rattle.std.proofs.Common.{◌≡◌, ◌∙◌, ℕ, zero, suc, ◌-◌, Bool, true, false, if◌then◌else◌, nat_lt, List, [], ◌∷◌, ◌++◌, Option, None, Some, refl, sym, ap, subst}
use Rattle.textarea_history.specs.Groups.{is_open}
use Rattle.textarea_history.specs.Log.{group_ended}
use Rattle.textarea_document.specs.Prelude.{DocumentState, EditStep, Insert, Layout, Place, Remove, RemoveAfter, RemoveBefore, RemoveBreak, Splice, Symbol, after_move, after_redo, after_redo_by, after_undo, after_undo_by}
use Rattle.textarea_document.specs.Prelude.{between_removed, edit_redone, edit_undone, is_before, layout_at_once, lines_numbered, made_at_once, newest, newest_group, next, next_group, stepped, symbols_inserted, times, times_at_once}
use Rattle.textarea_document.specs.Replacing.{ahead_end, ahead_replaced, ahead_start, all_replaced, begun_at_start, each_replaced, each_splices, ended_after, replaced_in_turn, stretch_removal, stretch_removed}
use Rattle.textarea_document.specs.Replacing.{stretch_replaced, stretch_splices}
use Rattle.textarea_document.specs.Splices.{insertion_splices}

-- the document with this layout
abbrev pub relaid : Layout → DocumentState → DocumentState
relaid layout document = record document { layout = layout }

-- the first document is the other one, but for its layout
abbrev pub IsRelaid : DocumentState → DocumentState → Type 0
IsRelaid one other = one ≡ relaid one.layout other

pub relaid_over : (one two three : DocumentState) → IsRelaid one two → IsRelaid two three → IsRelaid one three
relaid_over one two three h k = h ∙ ap (relaid one.layout) k

pub relaid_back : (one other : DocumentState) → IsRelaid one other → IsRelaid other one
relaid_back one other h = sym (ap (relaid other.layout) h)

-- ---- steps

-- documents that differ in their layouts alone still do after the step
abbrev pub IgnoresLayout : (DocumentState → DocumentState) → Type 0
IgnoresLayout step = (one other : DocumentState) → IsRelaid one other → IsRelaid (step one) (step other)

by_layouts : (step : DocumentState → DocumentState) → ((layout : Layout) (document : DocumentState) → IsRelaid (step (relaid layout document)) (step document)) → IgnoresLayout step
by_layouts step each one other h = subst (λ (d : DocumentState). IsRelaid (step d) (step other)) (sym h) (each one.layout other)

pub times_ignore : (step : DocumentState → DocumentState) → IgnoresLayout step → (count : ℕ) → IgnoresLayout (times count step)
times_ignore step once zero = λ one other h. h
times_ignore step once (suc count) = λ one other h. once (times count step one) (times count step other) (times_ignore step once count one other h)

-- edits that wrap at once make the same document as those that wrap one after another, but for its layout
pub at_once_relaid : (edits : DocumentState → DocumentState) → IgnoresLayout edits → (document : DocumentState) → IsRelaid (made_at_once edits document) (edits document)
at_once_relaid edits ignores document =
    ap (relaid (layout_at_once document (edits (lines_numbered document)))) (ignores (lines_numbered document) document refl)

times_relaid : (step : DocumentState → DocumentState) → IgnoresLayout step → (count : ℕ) (document : DocumentState) → IsRelaid (times_at_once count step document) (times count step document)
times_relaid step ignores count document = by (nat_lt 1 count)
  where
    by : (b : Bool) → IsRelaid (if b then made_at_once (times count step) document else times count step document) (times count step document)
    by true = at_once_relaid (times count step) (times_ignore step ignores count) document
    by false = refl

-- ---- undo and redo

pub undone_ignores : IgnoresLayout edit_undone
undone_ignores = by_layouts edit_undone (λ layout document. by layout document (newest document.log))
  where
    by : (layout : Layout) (document : DocumentState) (found : Option Splice) → IsRelaid (after_undo_by found (relaid layout document)) (after_undo_by found document)
    by layout document None = refl
    by layout document (Some splice) = refl

pub redone_ignores : IgnoresLayout edit_redone
redone_ignores = by_layouts edit_redone (λ layout document. by layout document (next document.log))
  where
    by : (layout : Layout) (document : DocumentState) (found : Option Splice) → IsRelaid (after_redo_by found (relaid layout document)) (after_redo_by found document)
    by layout document None = refl
    by layout document (Some splice) = refl

pub undo_relaid : (document : DocumentState) → IsRelaid (after_undo document) (times (newest_group document.log) edit_undone document)
undo_relaid document = times_relaid edit_undone undone_ignores (newest_group document.log) document

pub redo_relaid : (document : DocumentState) → IsRelaid (after_redo document) (times (next_group document.log) edit_redone document)
redo_relaid document = times_relaid edit_redone redone_ignores (next_group document.log) document

pub undo_ignores : IgnoresLayout after_undo
undo_ignores = by_layouts after_undo (λ layout document. by layout document)
  where
    by : (layout : Layout) (document : DocumentState) → IsRelaid (after_undo (relaid layout document)) (after_undo document)
    by layout document =
        let count = newest_group document.log in
        let one = relaid layout document in
        relaid_over (after_undo one) (times count edit_undone one) (after_undo document) (undo_relaid one)
        (relaid_over (times count edit_undone one) (times count edit_undone document) (after_undo document) (times_ignore edit_undone undone_ignores count one document refl)
        (relaid_back (after_undo document) (times count edit_undone document) (undo_relaid document)))

pub redo_ignores : IgnoresLayout after_redo
redo_ignores = by_layouts after_redo (λ layout document. by layout document)
  where
    by : (layout : Layout) (document : DocumentState) → IsRelaid (after_redo (relaid layout document)) (after_redo document)
    by layout document =
        let count = next_group document.log in
        let one = relaid layout document in
        relaid_over (after_redo one) (times count edit_redone one) (after_redo document) (redo_relaid one)
        (relaid_over (times count edit_redone one) (times count edit_redone document) (after_redo document) (times_ignore edit_redone redone_ignores count one document refl)
        (relaid_back (after_redo document) (times count edit_redone document) (redo_relaid document)))

-- ---- replacements

step_ignores : (step : EditStep) (typed : Bool) (now : ℕ) → IgnoresLayout (λ document. stepped document step typed now)
step_ignores step typed now = by_layouts (λ document. stepped document step typed now) (λ layout document. by layout document step)
  where
    by : (layout : Layout) (document : DocumentState) (step : EditStep) → IsRelaid (stepped (relaid layout document) step typed now) (stepped document step typed now)
    by layout document (Insert symbols) = refl
    by layout document (Remove from to) = refl
    by layout document RemoveBefore = refl
    by layout document RemoveAfter = refl
    by layout document RemoveBreak = refl

inserted_ignores : (symbols : List Symbol) (now : ℕ) → IgnoresLayout (λ document. symbols_inserted document symbols now)
inserted_ignores [] now = by_layouts (λ document. symbols_inserted document [] now) (λ layout document. refl)
inserted_ignores (symbol ∷ symbols) now = step_ignores (Insert (symbol ∷ symbols)) false now

removed_ignores : (start stop : Place) (now : ℕ) → IgnoresLayout (λ document. stretch_removed document start stop now)
unfolding stretch_removed between_removed
removed_ignores start stop now = by (is_before start stop)
  where
    by : (b : Bool) → IgnoresLayout (λ document. if b then between_removed document start stop now else after_move document start None)
    by true = step_ignores (Remove start stop) false now
    by false = by_layouts (λ document. after_move document start None) (λ layout document. refl)

stretch_ignores : (start stop : Place) (symbols : List Symbol) (now : ℕ) → IgnoresLayout (λ document. stretch_replaced document start stop symbols now)
unfolding stretch_replaced
stretch_ignores start stop symbols now =
    λ one other h. inserted_ignores symbols now (stretch_removed one start stop now) (stretch_removed other start stop now) (removed_ignores start stop now one other h)

ahead_ignores : (skip count : ℕ) (symbols : List Symbol) (now : ℕ) → IgnoresLayout (λ document. ahead_replaced document skip count symbols now)
unfolding ahead_replaced
ahead_ignores skip count symbols now =
    by_layouts (λ document. ahead_replaced document skip count symbols now)
    (λ layout document. stretch_ignores (ahead_start document skip) (ahead_end document skip count) symbols now (relaid layout document) document refl)

each_ignores : (passed : ℕ) (stretches : List (ℕ × ℕ)) (symbols : List Symbol) (now : ℕ) → IgnoresLayout (λ document. each_replaced document passed stretches symbols now)
each_ignores passed [] symbols now = λ one other h. h
each_ignores passed (stretch ∷ rest) symbols now =
    let skip = stretch.0 - passed in
    let count = stretch.1 - stretch.0 in
    λ one other h. each_ignores stretch.1 rest symbols now (ahead_replaced one skip count symbols now) (ahead_replaced other skip count symbols now) (ahead_ignores skip count symbols now one other h)

ended_ignores : (before : DocumentState) → IgnoresLayout (ended_after before)
ended_ignores before = by (is_open before.log.group)
  where
    by : (b : Bool) → IgnoresLayout (λ document. if b then document else record document { log = group_ended document.log })
    by true = λ one other h. h
    by false = by_layouts (λ document. record document { log = group_ended document.log }) (λ layout document. refl)

in_turn_ignores : (stretches : List (ℕ × ℕ)) (symbols : List Symbol) (now : ℕ) → IgnoresLayout (λ document. replaced_in_turn document stretches symbols now)
in_turn_ignores stretches symbols now =
    by_layouts (λ document. replaced_in_turn document stretches symbols now)
    (λ layout document.
    let one = begun_at_start (relaid layout document) in
    let other = begun_at_start document in
    ended_ignores document (each_replaced one 0 stretches symbols now) (each_replaced other 0 stretches symbols now) (each_ignores 0 stretches symbols now one other refl))

-- replacements that wrap at once
pub all_relaid : (document : DocumentState) (stretch : ℕ × ℕ) (rest : List (ℕ × ℕ)) (symbols : List Symbol) (now : ℕ)
    → IsRelaid (all_replaced document (stretch ∷ rest) symbols now) (replaced_in_turn document (stretch ∷ rest) symbols now)
unfolding all_replaced
all_relaid document stretch rest symbols now =
    at_once_relaid (λ copy. replaced_in_turn copy (stretch ∷ rest) symbols now) (in_turn_ignores (stretch ∷ rest) symbols now) document

-- ---- their splices

insertion_same : (symbols : List Symbol) (one other : DocumentState) → IsRelaid one other → insertion_splices one symbols ≡ insertion_splices other symbols
insertion_same [] one other h = refl
insertion_same (symbol ∷ symbols) one other h = ap (λ (d : DocumentState). insertion_splices d (symbol ∷ symbols)) h

stretch_same : (start stop : Place) (symbols : List Symbol) (now : ℕ) (layout : Layout) (document : DocumentState)
    → stretch_splices (relaid layout document) start stop symbols now ≡ stretch_splices document start stop symbols now
unfolding stretch_splices
stretch_same start stop symbols now layout document =
    ap (λ (later : List Splice). stretch_removal document start stop ++ later)
    (insertion_same symbols (stretch_removed (relaid layout document) start stop now) (stretch_removed document start stop now) (removed_ignores start stop now (relaid layout document) document refl))

pub each_same : (passed : ℕ) (stretches : List (ℕ × ℕ)) (symbols : List Symbol) (now : ℕ) (one other : DocumentState) → IsRelaid one other
    → each_splices one passed stretches symbols now ≡ each_splices other passed stretches symbols now
each_same passed [] symbols now one other h = refl
each_same passed (stretch ∷ rest) symbols now one other h =
    let skip = stretch.0 - passed in
    let count = stretch.1 - stretch.0 in
    let later = each_splices (ahead_replaced one skip count symbols now) stretch.1 rest symbols now in
    ap (λ (d : DocumentState). stretch_splices d (ahead_start d skip) (ahead_end d skip count) symbols now ++ later) h
    ∙ ap (λ (first : List Splice). first ++ later) (stretch_same (ahead_start other skip) (ahead_end other skip count) symbols now one.layout other)
    ∙ ap (λ (rest : List Splice). stretch_splices other (ahead_start other skip) (ahead_end other skip count) symbols now ++ rest)
    (each_same stretch.1 rest symbols now (ahead_replaced one skip count symbols now) (ahead_replaced other skip count symbols now) (ahead_ignores skip count symbols now one other h))
