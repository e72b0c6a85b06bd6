-- What ranges cover after an edit, an undo or a redo, ranges cover before.
use Rattle.std.proofs.Common.{◌≡◌, ◌∙◌, ℕ, zero, suc, Bool, List, [], ◌∷◌, map, inl, inr, Option, Some, None, sym, ap, refl, subst, arith, suc-le-suc}
use Rattle.std.specs.Prelude.{Contains}
use Rattle.std.proofs.lemmas.List.Elements.{All-contains, Contains-append_cases, Contains-append_left, Contains-append_right}
use Rattle.textarea_ranges.specs.Moved.{covered_characters}
use Rattle.textarea_ranges.proofs.Moving.{covers_the_same}
use Rattle.textarea_document.specs.Covered.{CoversNoMore, covered, covered_before, covered_in, covered_past}
use Rattle.textarea_document.specs.Prelude.{AllBefore, AreValid, AtomicRange, DocumentState, Fits, IsRangeOfLine, IsSound, IsSoundInside, IsValidList, Splice, Symbol, applied, inverse, lines, moved_ranges}
use Rattle.textarea_document.specs.Prelude.{after_edit, after_redo, after_redo_by, after_undo, after_undo_by, edit_redone, edit_undone, newest, newest_group, next, next_group, ranges_before_newest}
use Rattle.textarea_document.specs.Prelude.{ranges_before_next, ranges_or, texts_before, times}
use Rattle.textarea_document.proofs.Layouts.{redo_relaid, undo_relaid}
use Rattle.textarea_document.proofs.PastRanges.{edited_has, newest_has, next_has, texts_before-redone, texts_before-undone}
use Rattle.textarea_document.proofs.RangesOverSplices.{from_moved}
use Rattle.textarea_document.proofs.Sounds.{inside_redone, inside_times, inside_undone, logged_sound, newest_fits, next_fits, next_ranges_valid, sound_inside}

-- ---- elements of a list that a function gives

pub found_in : {X Y : Type 0} (f : X → Y) (xs : List X) (y : Y) → Contains (map f xs) y → (x : X) × Contains xs x × (f x ≡ y)
found_in f [] y h = absurd (omega (arith, h.1))
found_in f (x ∷ xs) y (zero, within, is) = (x, (zero, omega arith, refl), is)
found_in f (x ∷ xs) y (suc k, within, is) =
    let later = found_in f xs y (k, omega arith, is) in
    (later.0, (suc later.1.0, suc-le-suc later.1.1, later.1.2), later.2)

pub map_has : {X Y : Type 0} (f : X → Y) (xs : List X) (x : X) → Contains xs x → Contains (map f xs) (f x)
map_has f [] x h = absurd (omega (arith, h.1))
map_has f (first ∷ xs) x (zero, within, is) = (zero, omega arith, ap f is)
map_has f (first ∷ xs) x (suc k, within, is) =
    let later = map_has f xs x (k, omega arith, is) in
    (suc later.0, suc-le-suc later.1, later.2)

-- ---- lists of ranges that cover only these

module _ (all : List (List ℕ)) where
  abbrev pub CoversOnly : List Symbol → List AtomicRange → Type 0
  CoversOnly text ranges = (characters : List ℕ) → Contains (covered_in text ranges) characters → Contains all characters

  moved_only : (text : List Symbol) (splice : Splice) (ranges : List AtomicRange) → Fits text splice → AreValid (lines text) ranges → CoversOnly text ranges →
      CoversOnly (applied text splice) (moved_ranges ranges splice)
  moved_only text splice ranges fits valid only characters h =
      let found = found_in (covered_characters (lines (applied text splice))) (moved_ranges ranges splice) characters h in
      let origin = from_moved ranges splice found.0 found.1 in
      let in_line : IsRangeOfLine (lines text) origin.x = All-contains (IsRangeOfLine (lines text)) ranges origin.x valid.components origin.stored in
      let same = covers_the_same text splice origin.x found.0 fits in_line origin.is in
      subst (Contains all) (sym same.same ∙ found.2) (only (covered_characters (lines text) origin.x) (map_has (covered_characters (lines text)) ranges origin.x origin.stored))

  either_only : (text : List Symbol) (past : Option (List AtomicRange)) (ranges : List AtomicRange) → ((before : List AtomicRange) → past ≡ Some before → CoversOnly text before) → CoversOnly text ranges →
      CoversOnly text (ranges_or past ranges)
  either_only text None ranges past h = h
  either_only text (Some before) ranges past h = past before refl

  -- all that the lists cover
  before_only : (texts : List (List Symbol)) (before : List (List AtomicRange)) → AllBefore CoversOnly texts before → (characters : List ℕ) → Contains (covered_before texts before) characters → Contains all characters
  before_only texts [] h characters stored = absurd (omega (arith, stored.1))
  before_only [] (ranges ∷ before) h characters stored = absurd h
  before_only (text ∷ texts) (ranges ∷ before) h characters stored =
      elim (Contains-append_cases (covered_in text ranges) (covered_before texts before) characters stored) [
        | inl here ↦ h.0 characters here
        | inr later ↦ before_only texts before h.1 characters later
      ]

  only_before : (texts : List (List Symbol)) (before : List (List AtomicRange)) → AllBefore IsValidList texts before → ((characters : List ℕ) → Contains (covered_before texts before) characters → Contains all characters) →
      AllBefore CoversOnly texts before
  only_before texts [] h only = tt
  only_before [] (ranges ∷ before) h only = h
  only_before (text ∷ texts) (ranges ∷ before) h only = (
    λ characters stored. only characters (Contains-append_left (covered_in text ranges) (covered_before texts before) characters stored),
    only_before texts before h.1 (λ characters stored. only characters (Contains-append_right (covered_in text ranges) (covered_before texts before) characters stored)),
  )

  -- all that a document covers
  covers_only : (document : DocumentState) → CoversOnly document.text document.ranges →
      AllBefore CoversOnly (texts_before document.text document.log.done document.log.undone) document.past_ranges.before → (characters : List ℕ) → Contains (covered document) characters → Contains all characters
  covers_only document now past characters stored =
      elim (Contains-append_cases (covered_in document.text document.ranges) (covered_past document) characters stored) [
        | inl here ↦ now characters here
        | inr before ↦ before_only (texts_before document.text document.log.done document.log.undone) document.past_ranges.before past characters before
      ]

-- what a document covers itself
now_only : (document : DocumentState) → CoversOnly (covered document) document.text document.ranges
now_only document characters stored = Contains-append_left (covered_in document.text document.ranges) (covered_past document) characters stored

past_only : (document : DocumentState) → IsSoundInside document → AllBefore (CoversOnly (covered document)) (texts_before document.text document.log.done document.log.undone) document.past_ranges.before
past_only document h =
    only_before (covered document) (texts_before document.text document.log.done document.log.undone) document.past_ranges.before h.past.valid
    (λ characters stored. Contains-append_right (covered_in document.text document.ranges) (covered_past document) characters stored)

-- ---- an edit, an undo and a redo

pub edit_covers : (document : DocumentState) (splice : Splice) (typed : Bool) (now : ℕ) → IsSound document → Fits document.text splice → CoversNoMore document (after_edit document splice typed now)
edit_covers document splice typed now h fits =
    let all = covered document in
    covers_only all (after_edit document splice typed now) (moved_only all document.text splice document.ranges fits h.ranges (now_only document))
    (edited_has (CoversOnly all) document.text document.ranges document.log document.past_ranges splice typed now (logged_sound document h) fits h.past.off (now_only document) (past_only document (sound_inside document h)))

undo_covers_once : (document : DocumentState) → IsSoundInside document → CoversNoMore document (edit_undone document)
undo_covers_once document h = by (newest document.log) refl
  where
    by : (found : Option Splice) → newest document.log ≡ found → CoversNoMore document (after_undo_by found document)
    by None e = λ characters stored. stored
    by (Some splice) e =
        let all = covered document in
        let fits = newest_fits document splice h.log e in
        let past = past_only document h in
        covers_only all (after_undo_by (Some splice) document)
        (either_only all (applied document.text (inverse splice)) (ranges_before_newest document.past_ranges document.log) (moved_ranges document.ranges (inverse splice))
        (λ before is. newest_has (CoversOnly all) document.text document.log document.past_ranges splice before past e is)
        (moved_only all document.text (inverse splice) document.ranges fits h.ranges (now_only document)))
        (subst (λ (texts : List (List Symbol)). AllBefore (CoversOnly all) texts document.past_ranges.before) (sym (texts_before-undone document.text document.log.done document.log.undone splice e fits)) past)

redo_covers_once : (document : DocumentState) → IsSoundInside document → CoversNoMore document (edit_redone document)
redo_covers_once document h = by (next document.log) refl
  where
    by : (found : Option Splice) → next document.log ≡ found → CoversNoMore document (after_redo_by found document)
    by None e = λ characters stored. stored
    by (Some splice) e =
        let all = covered document in
        let fits = next_fits document splice h.log e in
        let past = past_only document h in
        let first = ranges_or (ranges_before_next document.past_ranges document.log) document.ranges in
        covers_only all (after_redo_by (Some splice) document)
        (moved_only all document.text splice first fits (next_ranges_valid document splice h e).valid
        (either_only all document.text (ranges_before_next document.past_ranges document.log) document.ranges
        (λ before is. next_has (CoversOnly all) document.text document.log document.past_ranges splice before past e is)
        (now_only document)))
        (subst (λ (texts : List (List Symbol)). AllBefore (CoversOnly all) texts document.past_ranges.before) (sym (texts_before-redone document.text document.log.done document.log.undone splice e fits)) past)

covers_times : (step : DocumentState → DocumentState) → ((document : DocumentState) → IsSoundInside document → IsSoundInside (step document)) →
    ((document : DocumentState) → IsSoundInside document → CoversNoMore document (step document)) → (count : ℕ) (document : DocumentState) → IsSoundInside document → CoversNoMore document (times count step document)
covers_times step sound one zero document h = λ characters stored. stored
covers_times step sound one (suc count) document h =
    λ characters stored. covers_times step sound one count document h characters (one (times count step document) (inside_times step sound count document h) characters stored)

pub undo_covers : (document : DocumentState) → IsSound document → CoversNoMore document (after_undo document)
undo_covers document h =
    subst (CoversNoMore document) (sym (undo_relaid document)) (covers_times edit_undone inside_undone undo_covers_once (newest_group document.log) document (sound_inside document h))

pub redo_covers : (document : DocumentState) → IsSound document → CoversNoMore document (after_redo document)
redo_covers document h =
    subst (CoversNoMore document) (sym (redo_relaid document)) (covers_times edit_redone inside_redone redo_covers_once (next_group document.log) document (sound_inside document h))
