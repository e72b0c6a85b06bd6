-- An undo of a group leaves the ranges from before its oldest edit.
use Rattle.std.proofs.Common.{◌≡◌, ◌∙◌, ℕ, zero, suc, ◌+◌, ◌-◌, ◌≤◌, ◌<◌, ◌==◌, Bool, true, false, cond, List, [], ◌∷◌, length, reverse, take, drop, Option, Some, None, slice_get, ap, refl, arith}
use Rattle.std.proofs.lemmas.Bool.{eqb-true}
use Rattle.std.proofs.lemmas.List.{length-reverse}
use Rattle.std.proofs.lemmas.Option.{slice_get_within}
use Rattle.textarea_history.proofs.LogLaws.{newest_some}
use Rattle.textarea_document.specs.DocumentLaw.{RemembersBefore, ranges_before_group}
use Rattle.textarea_document.specs.Prelude.{AllBefore, AtomicRange, DocumentState, Fits, IsSound, IsSoundInside, IsValidList, Log, PastRanges, Splice, Symbol, after_edit, after_undo, after_undo_by}
use Rattle.textarea_document.specs.Prelude.{applied, appended_log, edit_undone, group_forgotten, inverse, is_outgrown, joined_log, joins}
use Rattle.textarea_document.specs.Prelude.{moved_ranges, newest, newest_group, ranges_or, ranges_to_remember, recorded, texts_ahead, texts_back, texts_before, times, with_newest}
use Rattle.textarea_document.proofs.Layouts.{undo_relaid}
use Rattle.textarea_document.proofs.Sounds.{sound_edited, sound_inside}
use Rattle.textarea_document.proofs.UndoGroups.{are_undone}

-- ---- as many lists as edits, at most

sized : (Has : List Symbol → List AtomicRange → Type 0) (texts : List (List Symbol)) (before : List (List AtomicRange)) → AllBefore Has texts before → length before ≤ length texts
sized Has texts [] h = omega arith
sized Has [] (ranges ∷ before) h = absurd h
sized Has (text ∷ texts) (ranges ∷ before) h = omega (arith, sized Has texts before h.1)

back_size : (text : List Symbol) (splices : List Splice) → length (texts_back text splices) ≡ length splices
back_size text [] = refl
back_size text (splice ∷ older) = ap (λ (n : ℕ). suc n) (back_size (applied text (inverse splice)) older)

ahead_size : (texts : List (List Symbol)) (text : List Symbol) (undone : List Splice) → length (texts_ahead texts text undone) ≡ length texts + length undone
ahead_size texts text [] = omega arith
ahead_size texts text (splice ∷ later) = omega (arith, ahead_size (text ∷ texts) (applied text splice) later)

lists_within : (document : DocumentState) → IsSoundInside document → length document.past_ranges.before ≤ length document.log.done + length document.log.undone
lists_within document h =
    let done = reverse document.log.done in
    omega (
      arith,
      sized IsValidList (texts_before document.text document.log.done document.log.undone) document.past_ranges.before h.past.valid,
      ahead_size (texts_back document.text done) document.text document.log.undone,
      back_size document.text done,
      length-reverse document.log.done,
    )

-- ---- undos

past_stays : (count : ℕ) (document : DocumentState) → (times count edit_undone document).past_ranges ≡ document.past_ranges
past_stays zero document = refl
past_stays (suc count) document = by (newest (times count edit_undone document).log) ∙ past_stays count document
  where
    by : (found : Option Splice) → (after_undo_by found (times count edit_undone document)).past_ranges ≡ (times count edit_undone document).past_ranges
    by None = refl
    by (Some splice) = refl

given_back : (count : ℕ) (document : DocumentState) (ranges : List AtomicRange) → IsSoundInside document → slice_get document.past_ranges.before (length document.log.undone + count) ≡ Some ranges →
    (times (suc count) edit_undone document).ranges ≡ ranges
given_back count document ranges h is =
    let last = times count edit_undone document in
    let index = length document.log.undone + count in
    let within = slice_get_within document.past_ranges.before index ranges is in
    let few = lists_within document h in
    let sizes = are_undone count document (omega (arith, within, few)) in
    let found = newest_some last.log.done (omega (arith, within, few, sizes.done)) in
    let moved = moved_ranges last.ranges (inverse found.0) in
    ap (λ (o : Option Splice). (after_undo_by o last).ranges) found.1
    ∙ ap (λ (p : PastRanges). ranges_or (slice_get p.before (length last.log.undone)) moved) (past_stays count document)
    ∙ ap (λ (n : ℕ). ranges_or (slice_get document.past_ranges.before n) moved) sizes.undone
    ∙ ap (λ (o : Option (List AtomicRange)). ranges_or o moved) is

pub group_given_back : (document : DocumentState) (ranges : List AtomicRange) → IsSound document → ranges_before_group document ≡ Some ranges → (after_undo document).ranges ≡ ranges
group_given_back document ranges h is =
    let count : newest_group document.log ≡ suc (newest_group document.log - 1) = omega arith in
    ap (λ (d : DocumentState). d.ranges) (undo_relaid document)
    ∙ ap (λ (n : ℕ). (times n edit_undone document).ranges) count
    ∙ given_back (newest_group document.log - 1) document ranges (sound_inside document h) is

-- ---- an edit

head_stays : {A : Type 0} (x : A) (xs : List A) (n : ℕ) → 0 < n → slice_get (take n (x ∷ xs)) 0 ≡ Some x
head_stays x xs zero some = absurd (omega (arith, some))
head_stays x xs (suc n) some = refl

none_undone_after : (document : DocumentState) (splice : Splice) (typed : Bool) (now : ℕ) → IsSound document → joins document.log splice typed now ≡ false →
    0 < length (recorded document.log splice typed now).done → (recorded document.log splice typed now).undone ≡ []
none_undone_after document splice typed now h apart = by (log.maximum == 0) (joins log splice typed now) (is_outgrown log) refl apart
  where
    log : Log
    log = document.log

    by : (none joined outgrown : Bool) → (log.maximum == 0) ≡ none → joined ≡ false →
        0 < length (cond none log (cond joined (joined_log log splice now) (cond outgrown (group_forgotten log) (appended_log log splice typed now)))).done →
        (cond none log (cond joined (joined_log log splice now) (cond outgrown (group_forgotten log) (appended_log log splice typed now)))).undone ≡ []
    by true joined outgrown none apart some = absurd (omega (arith, some, h.bounded, eqb-true log.maximum 0 none))
    by false true outgrown none apart some = absurd cc
    by false false true none apart some = refl
    by false false false none apart some = refl

pub edit_given_back : (document : DocumentState) (splice : Splice) (typed : Bool) (now : ℕ) → IsSound document → Fits document.text splice → RemembersBefore document splice typed now →
    newest_group (after_edit document splice typed now).log ≡ 1 → (after_undo (after_edit document splice typed now)).ranges ≡ document.ranges
edit_given_back document splice typed now h fits remembers one =
    let after = after_edit document splice typed now in
    let log = document.log in
    let past = document.past_ranges in
    let done = (recorded log splice typed now).done in
    let kept : ranges_to_remember past document.ranges log splice typed now ≡ Some document.ranges =
    ap (λ (on : Bool). cond on (cond (joins log splice typed now) None (Some document.ranges)) None) remembers.on
    ∙ ap (λ (joined : Bool). cond joined None (Some document.ranges)) remembers.apart in
    let first : slice_get after.past_ranges.before 0 ≡ Some document.ranges =
    ap (λ (k : Option (List AtomicRange)). slice_get (with_newest past k (length log.undone) (length done)).before 0) kept
    ∙ head_stays document.ranges (drop (length log.undone) past.before) (length done) remembers.some in
    let at : length after.log.undone + (newest_group after.log - 1) ≡ 0 = omega (arith, ap length (none_undone_after document splice typed now h remembers.apart remembers.some), one) in
    group_given_back after document.ranges (sound_edited document splice typed now h fits) (ap (slice_get after.past_ranges.before) at ∙ first)
