-- The law of undo.
use Rattle.std.proofs.Common.{◌≡◌, Bool, true, false, cond, ◌==◌, ℕ, zero, suc, ◌-◌, ◌≤◌, ◌<◌, List, [], ◌∷◌, ◌++◌, length, take, drop, Option, Some, None, slice_get, sym, ap, refl, ◌∙◌, subst, arith}
use Rattle.std.proofs.lemmas.Bool.Decides.{nat_tests}
use Rattle.std.proofs.lemmas.List.{length-append}
use Rattle.std.proofs.lemmas.Option.{slice_get_within}
use Rattle.textarea_document.specs.Prelude.{IfSome, Symbol, Splice, Fits, place_after, place_before, IsTextBefore, Place, end, merged, Log, Logged, appended_log, done_groups, done_joined, group_count}
use Rattle.textarea_document.specs.Prelude.{group_forgotten, grown, is_outgrown, joined_log, joins, recorded, remaining_done, newest, newest_group, next, next_group, IsSame, times, DocumentState}
use Rattle.textarea_document.specs.Prelude.{logged, after_edit, after_redo, after_redo_by, after_undo, after_undo_by, edit_redone, edit_undone, RestoresAll, RestoresDocument, IsSound}
use Rattle.textarea_text.proofs.Splices.{end-append}
use Rattle.textarea_history.specs.Log.{redone as text_redone, redone_by as text_redone_by, undone as text_undone, undone_by as text_undone_by}
use Rattle.textarea_history.proofs.Joins.{joins_newest}
use Rattle.textarea_history.proofs.Groups.{some_group}
use Rattle.textarea_history.proofs.LogLaws.{next_again, gives_back as text_gives_back}
use Rattle.textarea_document.proofs.Layouts.{IsRelaid, redo_ignores, redo_relaid, relaid_over, times_ignore, undo_relaid}
use Rattle.textarea_document.proofs.Sounds.{logged_sound, sound_edited}
use Rattle.textarea_document.proofs.UndoGroups.{are_undone, groups_undone, none_redone, none_undone}

-- an undo and a redo of an edit change a document's text and log as they change a text with its log
undone_logged : (document : DocumentState) → logged (edit_undone document) ≡ text_undone (logged document)
undone_logged document = by (newest document.log)
  where
    by : (found : Option Splice) → logged (after_undo_by found document) ≡ text_undone_by found (logged document)
    by None = refl
    by (Some splice) = refl

redone_logged : (document : DocumentState) → logged (edit_redone document) ≡ text_redone (logged document)
redone_logged document = by (next document.log)
  where
    by : (found : Option Splice) → logged (after_redo_by found document) ≡ text_redone_by found (logged document)
    by None = refl
    by (Some splice) = refl

logged_times : (step : DocumentState → DocumentState) (text_step : Logged → Logged) → ((document : DocumentState) → logged (step document) ≡ text_step (logged document)) →
    (count : ℕ) (document : DocumentState) → logged (times count step document) ≡ times count text_step (logged document)
logged_times step text_step one zero document = refl
logged_times step text_step one (suc count) document = one (times count step document) ∙ ap text_step (logged_times step text_step one count document)

-- the undo of a group, on a text and its log
abbrev group_undone : Logged → Logged
group_undone all = times (newest_group all.log) text_undone all

group_logged : (document : DocumentState) → logged (after_undo document) ≡ group_undone (logged document)
group_logged document = ap logged (undo_relaid document) ∙ logged_times edit_undone text_undone undone_logged (newest_group document.log) document

-- undos from documents with the same text and log give the same texts, wherever the cursors are
pub undos_alike : (count : ℕ) (one other : DocumentState) → logged one ≡ logged other → (times count after_undo one).text ≡ (times count after_undo other).text
undos_alike count one other same =
    ap (λ (l : Logged). l.text)
    (logged_times after_undo group_undone group_logged count one ∙ ap (times count group_undone) same ∙ sym (logged_times after_undo group_undone group_logged count other))

-- `count` undos of edits, and the same number of redos
record RestoresEdits (document : DocumentState) (count : ℕ) : Type 0 where
  before : IsTextBefore (times count edit_undone document).text document.text (drop (length document.log.done - count) document.log.done)
  again : IsSame (logged (times count edit_redone (times count edit_undone document))) (logged document)
  cursor : 0 < count → IfSome (newest document.log) (λ splice. (times count edit_redone (times count edit_undone document)).cursor ≡ place_after splice)

-- the last of `count` redos leaves the cursor where the newest edit does
cursor_again : (count : ℕ) (document : DocumentState) (found : Option Splice) → newest document.log ≡ found → IsSound document → count ≤ length document.log.done → 0 < count →
    IfSome found (λ splice. (times count edit_redone (times count edit_undone document)).cursor ≡ place_after splice)
cursor_again zero document found e h within some = absurd (omega arith)
cursor_again (suc count) document None e h within some = tt
cursor_again (suc count) document (Some splice) e h within some =
    let left = times (suc count) edit_undone document in
    let is = logged_times edit_redone text_redone redone_logged count left ∙ ap (times count text_redone) (logged_times edit_undone text_undone undone_logged (suc count) document) in
    let ahead : next (times count edit_redone left).log ≡ Some splice = ap (λ (l : Logged). next l.log) is ∙ next_again count (logged document) splice (logged_sound document h) e within in
    ap (λ (o : Option Splice). (after_redo_by o (times count edit_redone left)).cursor) ahead

edits_given_back : (count : ℕ) (document : DocumentState) → IsSound document → count ≤ length document.log.done → RestoresEdits document count
edits_given_back count document h within =
    let supplied = text_gives_back count (logged document) (logged_sound document h) within in
    let back = logged_times edit_undone text_undone undone_logged count document in
    let again = logged_times edit_redone text_redone redone_logged count (times count edit_undone document) ∙ ap (times count text_redone) back in
    record {
      before = subst (λ (l : Logged). IsTextBefore l.text document.text (drop (length document.log.done - count) document.log.done)) (sym back) supplied.before;
      again = subst (λ (l : Logged). IsSame l (logged document)) (sym again) supplied.again;
      cursor = cursor_again count document (newest document.log) refl h within;
    }

pub gives_back : (count : ℕ) (document : DocumentState) → IsSound document → count ≤ done_groups document.log → RestoresDocument document count
gives_back count document h within =
    let groups = groups_undone count document h.whole within in
    let restored = edits_given_back groups.edits document h groups.within in
    let left = times groups.edits edit_undone document in
    let sizes = are_undone groups.edits document groups.within in
    let size : length document.log.done - groups.edits ≡ length left.log.done = omega (arith, sizes.done) in
    let all = times count after_undo document in
    let again : IsRelaid (times count after_redo all) (times groups.edits edit_redone left) =
    relaid_over (times count after_redo all) (times count after_redo left) (times groups.edits edit_redone left)
    (times_ignore after_redo redo_ignores count all left groups.undone) (groups.redone left sizes.marks (sym size) (omega (arith, sizes.undone))) in
    let counted : done_groups left.log ≡ done_groups document.log - count =
    ap (λ (m : List Bool). group_count m (length left.log.done)) sizes.marks ∙ omega (arith, groups.groups, ap (group_count document.log.marks) size) in
    record {
      groups = ap (λ (d : DocumentState). done_groups d.log) groups.undone ∙ counted;
      before = subst (λ (d : DocumentState). IsTextBefore d.text document.text (drop (length d.log.done) document.log.done)) (sym groups.undone)
          (subst (λ n. IsTextBefore left.text document.text (drop n document.log.done)) size restored.before);
      again = subst (λ (d : DocumentState). IsSame (logged d) (logged document)) (sym again) restored.again;
      cursor = λ some. subst (λ (d : DocumentState). IfSome (newest document.log) (λ splice. d.cursor ≡ place_after splice)) (sym again) (restored.cursor (omega (arith, some, groups.some)));
    }

-- ---- after an edit

-- the cursor is where the newest of the done edits leaves it
merged_after : (run edit : Splice) → edit.inserts ≡ run.inserts → place_after run ≡ place_before edit → place_after (merged run edit) ≡ place_after edit
merged_after run edit direction meets = by run.inserts edit.inserts direction run.place edit.place run.symbols edit.symbols meets
  where
    by : (b b' : Bool) → b' ≡ b → (p q : Place) (s t : List Symbol) → place_after (record { place = p; symbols = s; inserts = b }) ≡ place_before (record { place = q; symbols = t; inserts = b' }) →
        place_after (merged (record { place = p; symbols = s; inserts = b }) (record { place = q; symbols = t; inserts = b' })) ≡ place_after (record { place = q; symbols = t; inserts = b' })
    by true true e p q s t meet = end-append p s t ∙ ap (λ (r : Place). end r t) meet
    by false false e p q s t meet = refl
    by true false e p q s t meet = absurd cc
    by false true e p q s t meet = absurd cc

newest-last : (front : List Splice) (splice : Splice) → slice_get (front ++ splice ∷ []) (length (front ++ splice ∷ []) - 1) ≡ Some splice
newest-last front splice =
    let at : length (front ++ splice ∷ []) - 1 ≡ length front = omega (arith, length-append front (splice ∷ [])) in
    ap (slice_get (front ++ splice ∷ [])) at ∙ slice_get_at front splice
  where
    slice_get_at : (xs : List Splice) (x : Splice) → slice_get (xs ++ x ∷ []) (length xs) ≡ Some x
    slice_get_at [] x = refl
    slice_get_at (y ∷ xs) x = slice_get_at xs x

-- the cursor is where the newest done edit leaves it
record LeavesCursor (log : Log) (splice : Splice) : Type 0 where
  edit : Splice
  newest_is : newest log ≡ Some edit
  cursor : place_after edit ≡ place_after splice

joined_leaves : (log : Log) (splice : Splice) (typed : Bool) (now : ℕ) → joins log splice typed now ≡ true → LeavesCursor (joined_log log splice now) splice
joined_leaves log splice typed now e =
    let joining = joins_newest log splice typed now e in
    let run = joining.run in
    let front = take (length log.done - 1) log.done in
    let done_is : done_joined log splice ≡ front ++ merged run splice ∷ [] = ap (λ (o : Option Splice). front ++ grown o splice ∷ []) joining.newest_is in
    record {
      edit = merged run splice;
      newest_is = ap (λ (d : List Splice). slice_get d (length d - 1)) done_is ∙ newest-last front (merged run splice);
      cursor = merged_after run splice joining.direction joining.place;
    }

appended_leaves : (log : Log) (splice : Splice) (typed : Bool) (now : ℕ) → LeavesCursor (appended_log log splice typed now) splice
appended_leaves log splice typed now = record { edit = splice; newest_is = newest-last (remaining_done log) splice; cursor = refl }

-- an undo and a redo give all back if the newest edit leaves the cursor where it is, or if there is no edit
given_back : (document : DocumentState) (splice : Splice) → IsSound document → LeavesCursor document.log splice → document.cursor ≡ place_after splice → RestoresAll document
given_back document splice h leaves at =
    let log = document.log in
    let within : 1 ≤ done_groups log =
    let some = slice_get_within log.done (length log.done - 1) leaves.edit leaves.newest_is in
    let last : suc (length log.done - 1) ≡ length log.done = omega (arith, some) in
    subst (λ n. 1 ≤ group_count log.marks n) last (some_group log.marks (length log.done - 1)) in
    let back = gives_back 1 document h within in
    let cursor : (after_redo (after_undo document)).cursor ≡ place_after leaves.edit =
    subst (λ (o : Option Splice). IfSome o (λ s. (after_redo (after_undo document)).cursor ≡ place_after s)) leaves.newest_is (back.cursor (omega arith)) in
    record { same = back.again; cursor = cursor ∙ leaves.cursor ∙ sym at }

none_given_back : (document : DocumentState) → newest document.log ≡ None → next document.log ≡ None → RestoresAll document
none_given_back document no_newest no_next =
    let undone : IsRelaid (after_undo document) document = subst (IsRelaid (after_undo document)) (none_undone (newest_group document.log) document no_newest).0 (undo_relaid document) in
    let redone : IsRelaid (after_redo document) document = subst (IsRelaid (after_redo document)) (none_redone (next_group document.log) document no_next).0 (redo_relaid document) in
    let again : IsRelaid (after_redo (after_undo document)) document =
    relaid_over (after_redo (after_undo document)) (after_redo document) document (redo_ignores (after_undo document) document undone) redone in
    record {
      same = subst (λ (d : DocumentState). IsSame (logged d) (logged document)) (sym again) (record { text = refl; done = refl; undone = refl });
      cursor = ap (λ (d : DocumentState). d.cursor) again;
    }

pub gives_all_back : (document : DocumentState) (splice : Splice) (typed : Bool) (now : ℕ) → IsSound document → Fits document.text splice → 0 < document.log.maximum →
    RestoresAll (after_edit document splice typed now)
gives_all_back document splice typed now h fits some = by (joins log splice typed now) (is_outgrown log) refl is
  where
    log : Log
    log = document.log

    remembers : (log.maximum == 0) ≡ false
    remembers = grind (arith, nat_tests)

    after : Bool → Bool → Log
    after joined outgrown = cond joined (joined_log log splice now) (cond outgrown (group_forgotten log) (appended_log log splice typed now))

    is : recorded log splice typed now ≡ after (joins log splice typed now) (is_outgrown log)
    is = ap (λ b. cond b log (after (joins log splice typed now) (is_outgrown log))) remembers

    whole : (left : Log) → recorded log splice typed now ≡ left → LeavesCursor left splice → RestoresAll (after_edit document splice typed now)
    whole left e leaves =
        given_back (after_edit document splice typed now) splice (sound_edited document splice typed now h fits)
        (subst (λ (l : Log). LeavesCursor l splice) (sym e) leaves) refl

    by : (joined outgrown : Bool) → joins log splice typed now ≡ joined → recorded log splice typed now ≡ after joined outgrown → RestoresAll (after_edit document splice typed now)
    by true outgrown joins_it e = whole (joined_log log splice now) e (joined_leaves log splice typed now joins_it)
    by false true joins_it e = none_given_back (after_edit document splice typed now) (ap newest e) (ap next e)
    by false false joins_it e = whole (appended_log log splice typed now) e (appended_leaves log splice typed now)
