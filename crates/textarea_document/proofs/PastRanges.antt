-- The remembered ranges are valid for the texts before the edits, over each edit, undo and redo.
use Rattle.std.proofs.Common.{◌≡◌, ◌∙◌, ℕ, zero, suc, ◌+◌, ◌-◌, ◌==◌, Bool, true, false, cond, List, [], ◌∷◌, ◌++◌, length, take, drop, reverse, Option, Some, None, slice_get, sym, ap, refl, subst, arith}
use Rattle.std.proofs.lemmas.Bool.{eqb-true}
use Rattle.std.proofs.lemmas.List.{append-nil, drop-drop, length-append, length-reverse, nil_from_length, reverse-append, take-append-drop}
use Rattle.textarea_document.specs.Prelude.{AllBefore, ArePastRanges, AtomicRange, Fits, IsValidList, Log, PastRanges, Splice, Symbol, appended_log, applied, done_joined, inverse, group_forgotten, is_outgrown, joined_log, joins}
use Rattle.textarea_document.specs.Prelude.{grown, merged, newest, next, ranges_before_newest, ranges_before_next, ranges_to_remember, recorded, remaining_done, texts_ahead, texts_back, texts_before, with_newest}
use Rattle.textarea_text.specs.Splice.{CanUndo}
use Rattle.textarea_text.proofs.TextPlaces.{takes_back}
use Rattle.textarea_history.specs.HistoryLaw.{IsSoundLog}
use Rattle.textarea_history.specs.Log.{is_full, oldest_group}
use Rattle.textarea_history.proofs.Joins.{joins_newest}
use Rattle.textarea_history.proofs.LogLaws.{before_newest, first_split, reverse_last}
use Rattle.textarea_history.proofs.UndoLaws.{merges}

-- ---- the texts over an undo, a redo, and an edit that joins another

pub texts_before-undone : (text : List Symbol) (done undone : List Splice) (splice : Splice) → slice_get done (length done - 1) ≡ Some splice → Fits text (inverse splice) →
    texts_before (applied text (inverse splice)) (take (length done - 1) done) (splice ∷ undone) ≡ texts_before text done undone
texts_before-undone text done undone splice e fits =
    let before = applied text (inverse splice) in
    let older = reverse (take (length done - 1) done) in
    ap (λ (t : List Symbol). texts_ahead (before ∷ texts_back before older) t undone) (before_newest text splice fits).leads
    ∙ ap (λ (d : List Splice). texts_ahead (texts_back text d) text undone) (sym (reverse_last done splice e))

pub texts_before-redone : (text : List Symbol) (done undone : List Splice) (splice : Splice) → slice_get undone 0 ≡ Some splice → Fits text splice →
    texts_before (applied text splice) (done ++ splice ∷ []) (drop 1 undone) ≡ texts_before text done undone
texts_before-redone text done undone splice e fits =
    let after = applied text splice in
    let back : texts_back after (reverse (done ++ splice ∷ [])) ≡ text ∷ texts_back text (reverse done) =
    ap (texts_back after) (reverse-append done (splice ∷ []))
    ∙ ap (λ (t : List Symbol). t ∷ texts_back t (reverse done)) (takes_back text splice fits).back in
    ap (λ (texts : List (List Symbol)). texts_ahead texts after (drop 1 undone)) back
    ∙ ap (texts_ahead (texts_back text (reverse done)) text) (sym (first_split undone splice e))

-- ---- lists of ranges, with any property

module _ (Has : List Symbol → List AtomicRange → Type 0) where
  all_rest : (text : List Symbol) (texts : List (List Symbol)) (before : List (List AtomicRange)) → AllBefore Has (text ∷ texts) before → AllBefore Has texts (drop 1 before)
  all_rest text texts [] h = tt
  all_rest text texts (ranges ∷ before) h = h.1

  -- without those of the undone edits
  pub all_ahead : (undone : List Splice) (texts : List (List Symbol)) (text : List Symbol) (before : List (List AtomicRange)) → AllBefore Has (texts_ahead texts text undone) before →
      AllBefore Has texts (drop (length undone) before)
  all_ahead [] texts text before h = h
  all_ahead (splice ∷ later) texts text before h =
      let one : length later + 1 ≡ suc (length later) = omega arith in
      subst (AllBefore Has texts) (drop-drop 1 (length later) before ∙ ap (λ (n : ℕ). drop n before) one)
      (all_rest text texts (drop (length later) before) (all_ahead later (text ∷ texts) (applied text splice) before h))

  -- the newest ones
  all_back : (newer older : List Splice) (text : List Symbol) (before : List (List AtomicRange)) → AllBefore Has (texts_back text (newer ++ older)) before →
      AllBefore Has (texts_back text newer) (take (length newer) before)
  all_back [] older text before h = tt
  all_back (splice ∷ newer) older text [] h = tt
  all_back (splice ∷ newer) older text (ranges ∷ before) h = (h.0, all_back newer older (applied text (inverse splice)) before h.1)

  -- one of them
  all_at : (index : ℕ) (text : List Symbol) (texts : List (List Symbol)) (before : List (List AtomicRange)) (ranges : List AtomicRange) → AllBefore Has (text ∷ texts) (drop index before) →
      slice_get before index ≡ Some ranges → Has text ranges
  all_at index text texts [] ranges h e = absurd cc
  all_at zero text texts (first ∷ before) ranges h e =
      let same : first ≡ ranges = cc in
      subst (Has text) same h.0
  all_at (suc index) text texts (first ∷ before) ranges h e = all_at index text texts before ranges h e

  -- ---- undo and redo

  pub newest_has : (text : List Symbol) (log : Log) (past : PastRanges) (splice : Splice) (ranges : List AtomicRange) → AllBefore Has (texts_before text log.done log.undone) past.before → newest log ≡ Some splice →
      ranges_before_newest past log ≡ Some ranges → Has (applied text (inverse splice)) ranges
  newest_has text log past splice ranges h e is =
      let before = applied text (inverse splice) in
      let older = reverse (take (length log.done - 1) log.done) in
      all_at (length log.undone) before (texts_back before older) past.before ranges
      (subst (λ (d : List Splice). AllBefore Has (texts_back text d) (drop (length log.undone) past.before)) (reverse_last log.done splice e)
      (all_ahead log.undone (texts_back text (reverse log.done)) text past.before h))
      is

  pub next_has : (text : List Symbol) (log : Log) (past : PastRanges) (splice : Splice) (ranges : List AtomicRange) → AllBefore Has (texts_before text log.done log.undone) past.before → next log ≡ Some splice →
      ranges_before_next past log ≡ Some ranges → Has text ranges
  next_has text log past splice ranges h e is =
      let texts = texts_back text (reverse log.done) in
      let later = drop 1 log.undone in
      let split = first_split log.undone splice e in
      let at : length log.undone - 1 ≡ length later = omega (arith, ap length split) in
      all_at (length later) text texts past.before ranges
      (all_ahead later (text ∷ texts) (applied text splice) past.before (subst (λ (u : List Splice). AllBefore Has (texts_ahead texts text u) past.before) split h))
      (ap (slice_get past.before) (sym at) ∙ is)

-- ---- an edit

-- there are no edits
no_texts : (text : List Symbol) (done undone : List Splice) → done ≡ [] → undone ≡ [] → texts_before text done undone ≡ []
no_texts text done undone no_done no_undone = ap (λ (d : List Splice). texts_before text d undone) no_done ∙ ap (texts_before text []) no_undone

texts_before-joined : (text : List Symbol) (log : Log) (splice : Splice) (typed : Bool) (now : ℕ) → IsSoundLog (record { text = text; log = log }) → Fits text splice → joins log splice typed now ≡ true →
    texts_before (applied text splice) (done_joined log splice) [] ≡ texts_before text log.done log.undone
texts_before-joined text log splice typed now h fits e =
    let after = applied text splice in
    let joining = joins_newest log splice typed now e in
    let run = joining.run in
    let front = take (length log.done - 1) log.done in
    let last = reverse_last log.done run joining.newest_is in
    let back : CanUndo text (run ∷ reverse front) = subst (CanUndo text) last h.undo in
    let same = merges text run splice back.0 fits joining.direction joining.place in
    ap (λ (o : Option Splice). texts_back after (reverse (front ++ grown o splice ∷ []))) joining.newest_is
    ∙ ap (texts_back after) (reverse-append front (merged run splice ∷ []))
    ∙ ap (λ (t : List Symbol). t ∷ texts_back t (reverse front)) same.back
    ∙ ap (texts_back text) (sym last)
    ∙ ap (texts_ahead (texts_back text (reverse log.done)) text) (sym joining.none_undone)

-- the edits that stay are the newest ones
remaining_front : (full : Bool) (count : ℕ) (done : List Splice) → (dropped : List Splice) × (reverse done ≡ reverse (cond full (drop count done) done) ++ dropped)
remaining_front true count done = (reverse (take count done), ap reverse (sym (take-append-drop count done)) ∙ reverse-append (take count done) (drop count done))
remaining_front false count done = ([], sym (append-nil (reverse done)))

-- none are remembered if they aren't to be
pub off_after : (past : PastRanges) (kept : Option (List AtomicRange)) (ranges : List AtomicRange) (log : Log) (splice : Splice) (typed : Bool) (now undone done : ℕ) → (past.on ≡ false → past.before ≡ []) →
    ranges_to_remember past ranges log splice typed now ≡ kept → (with_newest past kept undone done).on ≡ false → (with_newest past kept undone done).before ≡ []
off_after past None ranges log splice typed now undone done off is = off
off_after past (Some before) ranges log splice typed now undone done off is =
    λ no.
    let never : None ≡ Some before = ap (λ (on : Bool). cond on (cond (joins log splice typed now) None (Some ranges)) None) (sym no) ∙ is in
    absurd cc

module _ (Has : List Symbol → List AtomicRange → Type 0) where
  -- the lists after an edit of this text that leaves this log have the property
  abbrev Remembers : List Symbol → PastRanges → Log → Splice → Log → Option (List AtomicRange) → Type 0
  Remembers text past log splice after kept =
      AllBefore Has (texts_before (applied text splice) after.done after.undone) (with_newest past kept (length log.undone) (length after.done)).before

  same_texts : (texts others : List (List Symbol)) (before : List (List AtomicRange)) → others ≡ texts → AllBefore Has texts before → AllBefore Has others before
  same_texts texts others before is h = subst (λ (ts : List (List Symbol)). AllBefore Has ts before) (sym is) h

  none_has : (texts : List (List Symbol)) (before : List (List AtomicRange)) → before ≡ [] → AllBefore Has texts before
  none_has texts before is = subst (AllBefore Has texts) (sym is) tt

  appended_has : (text : List Symbol) (ranges : List AtomicRange) (log : Log) (past : PastRanges) (splice : Splice) → Fits text splice → Has text ranges →
      AllBefore Has (texts_before text log.done log.undone) past.before →
      AllBefore Has (texts_back (applied text splice) (reverse (remaining_done log ++ splice ∷ []))) (take (length (remaining_done log ++ splice ∷ [])) (ranges ∷ drop (length log.undone) past.before))
  appended_has text ranges log past splice fits here h =
      let remaining = remaining_done log in
      let rest = drop (length log.undone) past.before in
      let front = remaining_front (is_full log) (oldest_group log) log.done in
      let texts : texts_back (applied text splice) (reverse (remaining ++ splice ∷ [])) ≡ text ∷ texts_back text (reverse remaining) =
      ap (texts_back (applied text splice)) (reverse-append remaining (splice ∷ []))
      ∙ ap (λ (t : List Symbol). t ∷ texts_back t (reverse remaining)) (takes_back text splice fits).back in
      let size : length (remaining ++ splice ∷ []) ≡ suc (length (reverse remaining)) = omega (arith, length-append remaining (splice ∷ []), length-reverse remaining) in
      let older : AllBefore Has (texts_back text (reverse remaining)) (take (length (reverse remaining)) rest) =
      all_back Has (reverse remaining) front.0 text rest
      (subst (λ (d : List Splice). AllBefore Has (texts_back text d) rest) front.1 (all_ahead Has log.undone (texts_back text (reverse log.done)) text past.before h)) in
      subst (λ (ts : List (List Symbol)). AllBefore Has ts (take (length (remaining ++ splice ∷ [])) (ranges ∷ rest))) (sym texts)
      (subst (λ (n : ℕ). AllBefore Has (text ∷ texts_back text (reverse remaining)) (take n (ranges ∷ rest))) (sym size) (here, older))

  pub edited_has : (text : List Symbol) (ranges : List AtomicRange) (log : Log) (past : PastRanges) (splice : Splice) (typed : Bool) (now : ℕ) → IsSoundLog (record { text = text; log = log }) → Fits text splice →
      (past.on ≡ false → past.before ≡ []) → Has text ranges → AllBefore Has (texts_before text log.done log.undone) past.before →
      Remembers text past log splice (recorded log splice typed now) (ranges_to_remember past ranges log splice typed now)
  edited_has text ranges log past splice typed now sound fits off here h = by past.on (joins log splice typed now) (log.maximum == 0) (is_outgrown log) refl refl refl
    where
      empty : (log.maximum == 0) ≡ true → (log.done ≡ []) × (log.undone ≡ [])
      empty e =
          let none = eqb-true log.maximum 0 e in
          (nil_from_length log.done (omega (arith, sound.bounded)), nil_from_length log.undone (omega (arith, sound.bounded)))

      by : (on joined none outgrown : Bool) → past.on ≡ on → joins log splice typed now ≡ joined → (log.maximum == 0) ≡ none →
          Remembers text past log splice (cond none log (cond joined (joined_log log splice now) (cond outgrown (group_forgotten log) (appended_log log splice typed now)))) (cond on (cond joined None (Some ranges)) None)
      by false joined none outgrown on joins_it max = none_has _ past.before (off on)
      by true true true outgrown on joins_it max =
          let no = empty max in
          same_texts (texts_before text log.done log.undone) (texts_before (applied text splice) log.done log.undone) past.before
          (no_texts (applied text splice) log.done log.undone no.0 no.1 ∙ sym (no_texts text log.done log.undone no.0 no.1)) h
      by true true false outgrown on joins_it max =
          same_texts (texts_before text log.done log.undone) (texts_before (applied text splice) (done_joined log splice) []) past.before (texts_before-joined text log splice typed now sound fits joins_it) h
      by true false true outgrown on joins_it max =
          let before = ranges ∷ drop (length log.undone) past.before in
          none_has _ (take (length log.done) before) (ap (λ (d : List Splice). take (length d) before) (empty max).0)
      by true false false true on joins_it max = tt
      by true false false false on joins_it max = appended_has text ranges log past splice fits here h

-- the remembered ranges after an edit are valid
pub past_edited : (text : List Symbol) (ranges : List AtomicRange) (log : Log) (past : PastRanges) (splice : Splice) (typed : Bool) (now : ℕ) → IsSoundLog (record { text = text; log = log }) → Fits text splice →
    IsValidList text ranges → ArePastRanges (texts_before text log.done log.undone) past →
    ArePastRanges (texts_before (applied text splice) (recorded log splice typed now).done (recorded log splice typed now).undone)
    (with_newest past (ranges_to_remember past ranges log splice typed now) (length log.undone) (length (recorded log splice typed now).done))
past_edited text ranges log past splice typed now sound fits here h = record {
  off = off_after past (ranges_to_remember past ranges log splice typed now) ranges log splice typed now (length log.undone) (length (recorded log splice typed now).done) h.off refl;
  valid = edited_has IsValidList text ranges log past splice typed now sound fits h.off here h.valid;
}

pub newest_valid : (text : List Symbol) (log : Log) (past : PastRanges) (splice : Splice) (ranges : List AtomicRange) → ArePastRanges (texts_before text log.done log.undone) past → newest log ≡ Some splice →
    ranges_before_newest past log ≡ Some ranges → IsValidList (applied text (inverse splice)) ranges
newest_valid text log past splice ranges h e is = newest_has IsValidList text log past splice ranges h.valid e is

pub next_valid : (text : List Symbol) (log : Log) (past : PastRanges) (splice : Splice) (ranges : List AtomicRange) → ArePastRanges (texts_before text log.done log.undone) past → next log ≡ Some splice →
    ranges_before_next past log ≡ Some ranges → IsValidList text ranges
next_valid text log past splice ranges h e is = next_has IsValidList text log past splice ranges h.valid e is
