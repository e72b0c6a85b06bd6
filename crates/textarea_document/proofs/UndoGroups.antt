-- Undos and redos of groups are undos and redos of their edits.
use Rattle.std.proofs.Common.{◌≡◌, ◌∙◌, ℕ, zero, suc, ◌+◌, ◌-◌, ◌≤◌, ◌<◌, Bool, false, List, [], ◌∷◌, length, map, reverse, take, drop, get_or, Option, Some, None, slice_get, is_some, true, sym, ap, refl, subst, arith}
use Rattle.std.proofs.lemmas.List.{drop_all, length-append, length-drop, length-take-le, nil_from_length}
use Rattle.textarea_document.specs.Prelude.{Splice, DocumentState, after_redo, after_redo_by, after_undo, after_undo_by, edit_redone, edit_undone, group_count, grouped_before, grouped_first}
use Rattle.textarea_document.proofs.Layouts.{IsRelaid, redo_ignores, redo_relaid, redone_ignores, relaid_over, times_ignore, undo_relaid, undone_ignores}
use Rattle.textarea_document.specs.Prelude.{AtomicRange, moved_ranges, ranges_or, is_grouped, newest, newest_group, next, next_group, times, IsSound, IsSoundInside, Fits, Log, after_change, inverse, redone_log, undone_log}
use Rattle.textarea_history.proofs.Groups.{before_within, first_ends, first_none, first_within, group_again, group_begins, group_less}
use Rattle.textarea_history.proofs.LogLaws.{first_split, newest_some, reverse_last, times-front}
use Rattle.textarea_document.proofs.Sounds.{inside_redone, inside_times, inside_undone, newest_fits, next_fits, sound_inside, sound_whole}

-- ---- no edits

done_none : (done : List Splice) → slice_get done (length done - 1) ≡ None → done ≡ []
done_none [] e = refl
done_none (splice ∷ done) e =
    let found = newest_some (splice ∷ done) (omega arith) in
    let no : Some found.0 ≡ None = sym found.1 ∙ e in
    absurd cc

undone_none : (undone : List Splice) → slice_get undone 0 ≡ None → undone ≡ []
undone_none [] e = refl
undone_none (splice ∷ undone) e = absurd cc

-- a step that changes nothing, made several times
times-same : {A : Type 0} (step : A → A) (start : A) → step start ≡ start → (count : ℕ) → times count step start ≡ start
times-same step start same zero = refl
times-same step start same (suc count) = ap step (times-same step start same count) ∙ same

pub none_undone : (count : ℕ) (document : DocumentState) → newest document.log ≡ None → (times count edit_undone document ≡ document) × (document.log.done ≡ [])
none_undone count document e = (times-same edit_undone document (ap (λ (found : Option Splice). after_undo_by found document) e) count, done_none document.log.done e)

pub none_redone : (count : ℕ) (document : DocumentState) → next document.log ≡ None → (times count edit_redone document ≡ document) × (document.log.undone ≡ [])
none_redone count document e = (times-same edit_redone document (ap (λ (found : Option Splice). after_redo_by found document) e) count, undone_none document.log.undone e)

-- ---- several edits

pub times-add : {A : Type 0} (first second : ℕ) (step : A → A) (start : A) → times first step (times second step start) ≡ times (first + second) step start
times-add zero second step start = let same : second ≡ 0 + second = omega arith in ap (λ n. times n step start) same
times-add (suc first) second step start =
    let same : suc (first + second) ≡ suc first + second = omega arith in
    ap step (times-add first second step start) ∙ ap (λ n. times n step start) same

-- what undos of this number of edits leave
pub record AreUndone (count : ℕ) (old new : DocumentState) : Type 0 where
  pub done : length new.log.done + count ≡ length old.log.done
  pub undone : length new.log.undone ≡ length old.log.undone + count
  pub marks : new.log.marks ≡ old.log.marks

-- whatever the layout
undone_as : (count : ℕ) (old new other : DocumentState) → IsRelaid other new → AreUndone count old new → AreUndone count old other
undone_as count old new other same h =
    subst (AreUndone count old) (sym same) (record { done = h.done; undone = h.undone; marks = h.marks })

pub are_undone : (count : ℕ) (document : DocumentState) → count ≤ length document.log.done → AreUndone count document (times count edit_undone document)
are_undone zero document within = record { done = omega arith; undone = omega arith; marks = refl }
are_undone (suc count) document within =
    let old = times count edit_undone document in
    let rest = are_undone count document (omega (arith, within)) in
    let found = newest_some old.log.done (omega (arith, within, rest.done)) in
    subst (λ (o : Option Splice). AreUndone (suc count) document (after_undo_by o old)) (sym found.1)
    (record {
      done = omega (arith, within, rest.done, length-take-le (length old.log.done - 1) old.log.done (omega arith));
      undone = omega (arith, rest.undone);
      marks = rest.marks;
    })

-- an undo leaves as much
pub group_undone : (document : DocumentState) → newest_group document.log ≤ length document.log.done → AreUndone (newest_group document.log) document (after_undo document)
group_undone document within =
    undone_as (newest_group document.log) document (times (newest_group document.log) edit_undone document) (after_undo document) (undo_relaid document)
    (are_undone (newest_group document.log) document within)

pub record AreRedone (count : ℕ) (old new : DocumentState) : Type 0 where
  pub done : length new.log.done ≡ length old.log.done + count
  pub undone : length new.log.undone + count ≡ length old.log.undone
  pub marks : new.log.marks ≡ old.log.marks

next_some : (undone : List Splice) → 0 < length undone → (splice : Splice) × (slice_get undone 0 ≡ Some splice) × (length (drop 1 undone) + 1 ≡ length undone)
next_some [] some = absurd (omega arith)
next_some (splice ∷ undone) some = (splice, refl, omega arith)

pub are_redone : (count : ℕ) (document : DocumentState) → count ≤ length document.log.undone → AreRedone count document (times count edit_redone document)
are_redone zero document within = record { done = omega arith; undone = omega arith; marks = refl }
are_redone (suc count) document within =
    let old = times count edit_redone document in
    let rest = are_redone count document (omega (arith, within)) in
    let found = next_some old.log.undone (omega (arith, within, rest.undone)) in
    subst (λ (o : Option Splice). AreRedone (suc count) document (after_redo_by o old)) (sym found.1)
    (record {
      done = omega (arith, rest.done, length-append old.log.done (found.0 ∷ []));
      undone = omega (arith, rest.undone, found.2);
      marks = rest.marks;
    })

-- ---- groups

-- but for their layouts, `count` undos of groups are undos of so many edits, and the same redos redo them
pub record GroupsUndone (count : ℕ) (document : DocumentState) : Type 0 where
  pub edits : ℕ
  pub within : edits ≤ length document.log.done
  pub some : count ≤ edits
  pub undone : IsRelaid (times count after_undo document) (times edits edit_undone document)
  pub groups : group_count document.log.marks (length document.log.done - edits) + count ≡ group_count document.log.marks (length document.log.done)
  pub redone : (left : DocumentState) → left.log.marks ≡ document.log.marks → length left.log.done ≡ length document.log.done - edits → edits ≤ length left.log.undone → IsRelaid (times count after_redo left) (times edits edit_redone left)

-- the group of a document whose last done edit has the index `last`
pub record NewestUndone (last : ℕ) (document : DocumentState) : Type 0 where
  pub sizes : AreUndone (suc (grouped_before document.log.marks last)) document (after_undo document)
  pub start : length (after_undo document).log.done ≡ last - grouped_before document.log.marks last
  pub is : IsRelaid (after_undo document) (times (suc (grouped_before document.log.marks last)) edit_undone document)

pub newest_undone : (last : ℕ) (document : DocumentState) → length document.log.done ≡ suc last → NewestUndone last document
newest_undone last document e =
    let marks = document.log.marks in
    let at : length document.log.done - 1 ≡ last = omega (arith, e) in
    let edits = suc (grouped_before marks last) in
    let is : IsRelaid (after_undo document) (times edits edit_undone document) = subst (λ i. IsRelaid (after_undo document) (times (suc (grouped_before marks i)) edit_undone document)) at (undo_relaid document) in
    let inner = before_within marks last in
    let sizes = undone_as edits document (times edits edit_undone document) (after_undo document) is (are_undone edits document (omega (arith, e, inner))) in
    record { sizes = sizes; start = omega (arith, sizes.done, e, inner); is = is }

-- the group that is redone after it
pub next_is : (last : ℕ) (document left : DocumentState) → is_grouped document.log.marks (suc last) ≡ false → left.log.marks ≡ document.log.marks →
    length left.log.done ≡ last - grouped_before document.log.marks last → next_group left.log ≡ suc (grouped_before document.log.marks last)
next_is last document left whole marks start =
    let same = document.log.marks in
    let at : length left.log.done + 1 ≡ suc (last - grouped_before same last) = omega (arith, start) in
    ap (λ m. suc (grouped_first (drop (length left.log.done + 1) m))) marks
    ∙ ap (λ n. suc (grouped_first (drop n same))) at
    ∙ omega (arith, group_again same last, first_none same (suc last) whole)

pub groups_undone : (count : ℕ) (document : DocumentState) → is_grouped document.log.marks (length document.log.done) ≡ false → count ≤ group_count document.log.marks (length document.log.done) →
    GroupsUndone count document
groups_undone zero document whole within = record {
  edits = 0;
  within = omega arith;
  some = omega arith;
  undone = refl;
  groups = let all : length document.log.done - 0 ≡ length document.log.done = omega arith in omega (arith, ap (group_count document.log.marks) all);
  redone = λ left marks done few. refl;
}
groups_undone (suc count) document whole within = by (length document.log.done) refl (λ d w k. groups_undone count d w k)
  where
    marks : List Bool
    marks = document.log.marks

    by : (n : ℕ) → length document.log.done ≡ n →
        ((d : DocumentState) → is_grouped d.log.marks (length d.log.done) ≡ false → count ≤ group_count d.log.marks (length d.log.done) → GroupsUndone count d) →
        GroupsUndone (suc count) document
    by zero e later = absurd (omega (arith, within, ap (group_count marks) e))
    by (suc last) e later =
        let first = after_undo document in
        let newest = newest_undone last document e in
        let before = grouped_before marks last in
        let whole_last : is_grouped marks (suc last) ≡ false = ap (is_grouped marks) (sym e) ∙ whole in
        let begins : is_grouped first.log.marks (length first.log.done) ≡ false =
        ap (λ (m : List Bool). is_grouped m (length first.log.done)) newest.sizes.marks ∙ ap (is_grouped marks) newest.start ∙ group_begins marks last in
        let counted : group_count first.log.marks (length first.log.done) ≡ group_count marks (last - before) =
        ap (λ (m : List Bool). group_count m (length first.log.done)) newest.sizes.marks ∙ ap (group_count marks) newest.start in
        let less : suc (group_count marks (last - before)) ≡ group_count marks (length document.log.done) = group_less marks last ∙ ap (group_count marks) (sym e) in
        let rest = later first begins (omega (arith, within, counted, less)) in
        let edits = rest.edits + suc before in
        let sized : edits ≤ length document.log.done = omega (arith, rest.within, newest.sizes.done) in
        let left_at : length first.log.done - rest.edits ≡ length document.log.done - edits = omega (arith, newest.sizes.done) in
        record {
          edits = edits;
          within = sized;
          some = omega (arith, rest.some);
          undone =
              let one = times (suc before) edit_undone document in
              let further : IsRelaid (times count after_undo first) (times rest.edits edit_undone one) =
              relaid_over (times count after_undo first) (times rest.edits edit_undone first) (times rest.edits edit_undone one) rest.undone (times_ignore edit_undone undone_ignores rest.edits first one newest.is) in
              subst (λ (d : DocumentState). IsRelaid d (times edits edit_undone document)) (sym (times-front count after_undo document))
              (subst (IsRelaid (times count after_undo first)) (times-add rest.edits (suc before) edit_undone document) further);
          groups = omega (arith, counted, less, rest.groups, ap (λ (m : List Bool). group_count m (length first.log.done - rest.edits)) newest.sizes.marks, ap (group_count marks) left_at);
          redone = λ left same done few.
              let behind = times rest.edits edit_redone left in
              let sizes = are_redone rest.edits left (omega (arith, few)) in
              let earlier = rest.redone left (same ∙ sym newest.sizes.marks) (done ∙ sym left_at) (omega (arith, few)) in
              let group = next_is last document behind whole_last (sizes.marks ∙ same) (omega (arith, sizes.done, done, sized, newest.sizes.done, newest.start)) in
              let order : suc before + rest.edits ≡ edits = omega arith in
              let again : after_redo behind ≡ record (times edits edit_redone left) { layout = (after_redo behind).layout } =
              redo_relaid behind
              ∙ ap (λ (d : DocumentState). record d { layout = (after_redo behind).layout })
              (ap (λ n. times n edit_redone behind) group ∙ times-add (suc before) rest.edits edit_redone left ∙ ap (λ n. times n edit_redone left) order) in
              relaid_over (after_redo (times count after_redo left)) (after_redo behind) (times edits edit_redone left)
              (redo_ignores (times count after_redo left) behind earlier) again;
        }

-- ---- the invariant

pub undo_whole : (document : DocumentState) → IsSound document → is_grouped (after_undo document).log.marks (length (after_undo document).log.done) ≡ false
undo_whole document h = by (length document.log.done) refl
  where
    by : (n : ℕ) → length document.log.done ≡ n → is_grouped (after_undo document).log.marks (length (after_undo document).log.done) ≡ false
    by zero e =
        let none : newest document.log ≡ None = ap (λ (d : List Splice). slice_get d (length d - 1)) (nil_from_length document.log.done e) in
        let same = (none_undone (newest_group document.log) document none).0 in
        ap (λ (d : DocumentState). is_grouped d.log.marks (length d.log.done)) (undo_relaid document)
        ∙ subst (λ (d : DocumentState). is_grouped d.log.marks (length d.log.done) ≡ false) (sym same) h.whole
    by (suc last) e =
        let group = newest_undone last document e in
        ap (λ (m : List Bool). is_grouped m (length (after_undo document).log.done)) group.sizes.marks
        ∙ ap (is_grouped document.log.marks) group.start
        ∙ group_begins document.log.marks last

pub redo_whole : (document : DocumentState) → IsSound document → is_grouped (after_redo document).log.marks (length (after_redo document).log.done) ≡ false
redo_whole document h = by (length document.log.undone) refl
  where
    by : (n : ℕ) → length document.log.undone ≡ n → is_grouped (after_redo document).log.marks (length (after_redo document).log.done) ≡ false
    by zero e =
        let none : next document.log ≡ None = ap (λ (u : List Splice). slice_get u 0) (nil_from_length document.log.undone e) in
        let same = (none_redone (next_group document.log) document none).0 in
        ap (λ (d : DocumentState). is_grouped d.log.marks (length d.log.done)) (redo_relaid document)
        ∙ subst (λ (d : DocumentState). is_grouped d.log.marks (length d.log.done) ≡ false) (sym same) h.whole
    by (suc n) e =
        let marks = document.log.marks in
        let from = length document.log.done + 1 in
        let within = first_within (drop from marks) in
        let left = length-drop from marks in
        let sizes = are_redone (next_group document.log) document (omega (arith, within, left, h.marks, e)) in
        let all = times (next_group document.log) edit_redone document in
        let at : length all.log.done ≡ suc (length document.log.done + grouped_first (drop from marks)) = omega (arith, sizes.done) in
        let on : from + grouped_first (drop from marks) ≡ suc (length document.log.done + grouped_first (drop from marks)) = omega arith in
        ap (λ (d : DocumentState). is_grouped d.log.marks (length d.log.done)) (redo_relaid document)
        ∙ ap (λ (m : List Bool). is_grouped m (length all.log.done)) sizes.marks
        ∙ ap (is_grouped marks) at
        ∙ ap (λ k. get_or marks k false) (sym on)
        ∙ first_ends marks from

-- whatever the layout
inside_as : (one other : DocumentState) → IsRelaid one other → IsSoundInside other → IsSoundInside one
inside_as one other same h = subst IsSoundInside (sym same) (record { cursor = h.cursor; anchor = h.anchor; ranges = h.ranges; in_order = h.in_order; log = h.log; past = h.past })

pub sound_undo : (document : DocumentState) → IsSound document → IsSound (after_undo document)
sound_undo document h =
    sound_whole (after_undo document)
    (inside_as (after_undo document) (times (newest_group document.log) edit_undone document) (undo_relaid document)
    (inside_times edit_undone inside_undone (newest_group document.log) document (sound_inside document h)))
    (undo_whole document h)

pub sound_redo : (document : DocumentState) → IsSound document → IsSound (after_redo document)
sound_redo document h =
    sound_whole (after_redo document)
    (inside_as (after_redo document) (times (next_group document.log) edit_redone document) (redo_relaid document)
    (inside_times edit_redone inside_redone (next_group document.log) document (sound_inside document h)))
    (redo_whole document h)

-- ---- a group of several edits

-- it has one
pub newest_of_several : (document : DocumentState) → 1 < newest_group document.log → is_some (newest document.log) ≡ true
newest_of_several document several = by (length document.log.done) refl
  where
    by : (n : ℕ) → length document.log.done ≡ n → is_some (newest document.log) ≡ true
    by zero e =
        let at : length document.log.done - 1 ≡ 0 = omega (arith, e) in
        absurd (omega (arith, several, ap (grouped_before document.log.marks) at))
    by (suc last) e = ap is_some (newest_some document.log.done (omega (arith, e))).1

pub next_of_several : (document : DocumentState) → IsSound document → 1 < next_group document.log → is_some (next document.log) ≡ true
next_of_several document sound several = by document.log.undone refl
  where
    by : (undone : List Splice) → document.log.undone ≡ undone → is_some (next document.log) ≡ true
    by [] e =
        let past : length document.log.marks ≤ length document.log.done + 1 = omega (arith, sound.marks, ap length e) in
        absurd (omega (arith, several, ap grouped_first (drop_all (length document.log.done + 1) document.log.marks past)))
    by (splice ∷ undone) e = ap (λ (u : List Splice). is_some (slice_get u 0)) e

-- ---- what holds over one splice after another, over all that are undone or redone

abbrev pub GoesOn : (DocumentState → List Splice → DocumentState → Type 0) → Type 0
GoesOn Leads =
    (document : DocumentState) (splice : Splice) (log : Log) (ranges : List AtomicRange) (rest : List Splice) (new : DocumentState) → Fits document.text splice →
    (document.past_ranges.before ≡ [] → ranges ≡ moved_ranges document.ranges splice) → Leads (record (after_change document splice log) { ranges = ranges }) rest new → Leads document (splice ∷ rest) new

pub over_undos : (Leads : DocumentState → List Splice → DocumentState → Type 0) → ((document : DocumentState) → Leads document [] document) → GoesOn Leads → (count : ℕ) (document : DocumentState) →
    IsSoundInside document → Leads document (map inverse (take count (reverse document.log.done))) (times count edit_undone document)
over_undos Leads nothing more zero document h = nothing document
over_undos Leads nothing more (suc count) document h = by (newest document.log) refl (λ d k. over_undos Leads nothing more count d k)
  where
    by : (found : Option Splice) → newest document.log ≡ found →
        ((d : DocumentState) → IsSoundInside d → Leads d (map inverse (take count (reverse d.log.done))) (times count edit_undone d)) →
        Leads document (map inverse (take (suc count) (reverse document.log.done))) (times (suc count) edit_undone document)
    by None e later =
        let stays = none_undone (suc count) document e in
        subst (Leads document (map inverse (take (suc count) (reverse document.log.done)))) (sym stays.0)
        (subst (λ (d : List Splice). Leads document (map inverse (take (suc count) (reverse d))) document) (sym stays.1) (nothing document))
    by (Some splice) e later =
        let first = after_undo_by (Some splice) document in
        let is : edit_undone document ≡ first = ap (λ (found : Option Splice). after_undo_by found document) e in
        let rest = map inverse (take count (reverse first.log.done)) in
        subst (λ (d : List Splice). Leads document (map inverse (take (suc count) d)) (times (suc count) edit_undone document)) (sym (reverse_last document.log.done splice e))
        (subst (Leads document (inverse splice ∷ rest)) (sym (times-front count edit_undone document ∙ ap (times count edit_undone) is))
        (more document (inverse splice) (undone_log document.log splice) first.ranges rest (times count edit_undone first) (newest_fits document splice h.log e)
        (λ none. ap (λ (before : List (List AtomicRange)). ranges_or (slice_get before (length document.log.undone)) (moved_ranges document.ranges (inverse splice))) none)
        (later first (subst IsSoundInside is (inside_undone document h)))))

pub over_redos : (Leads : DocumentState → List Splice → DocumentState → Type 0) → ((document : DocumentState) → Leads document [] document) → GoesOn Leads → (count : ℕ) (document : DocumentState) →
    IsSoundInside document → Leads document (take count document.log.undone) (times count edit_redone document)
over_redos Leads nothing more zero document h = nothing document
over_redos Leads nothing more (suc count) document h = by (next document.log) refl (λ d k. over_redos Leads nothing more count d k)
  where
    by : (found : Option Splice) → next document.log ≡ found →
        ((d : DocumentState) → IsSoundInside d → Leads d (take count d.log.undone) (times count edit_redone d)) →
        Leads document (take (suc count) document.log.undone) (times (suc count) edit_redone document)
    by None e later =
        let stays = none_redone (suc count) document e in
        subst (Leads document (take (suc count) document.log.undone)) (sym stays.0)
        (subst (λ (d : List Splice). Leads document (take (suc count) d) document) (sym stays.1) (nothing document))
    by (Some splice) e later =
        let first = after_redo_by (Some splice) document in
        let is : edit_redone document ≡ first = ap (λ (found : Option Splice). after_redo_by found document) e in
        let rest = take count first.log.undone in
        subst (λ (d : List Splice). Leads document (take (suc count) d) (times (suc count) edit_redone document)) (sym (first_split document.log.undone splice e))
        (subst (Leads document (splice ∷ rest)) (sym (times-front count edit_redone document ∙ ap (times count edit_redone) is))
        (more document splice (redone_log document.log splice) first.ranges rest (times count edit_redone first) (next_fits document splice h.log e)
        (λ none. ap (λ (before : List (List AtomicRange)). moved_ranges (ranges_or (slice_get before (length document.log.undone - 1)) document.ranges) splice) none)
        (later first (subst IsSoundInside is (inside_redone document h)))))
