-- Undos, redos and edits keep lines and their history sound.
use Rattle.std.proofs.Common.{◌≡◌, ◌<◌, ◌∙◌, length, ℕ, Bool, List, String, Option, Some, None, Result, Ok, Err, ap, refl, subst, sym}
use Rattle.std.specs.Option.{IfSome}
use Rattle.std.specs.Result.{IfOk, OnErr, OnOk}
use Rattle.textarea_text.specs.Text.{Symbol, text_of}
use Rattle.textarea_text.specs.Place.{Place}
use Rattle.textarea_text.specs.Splice.{Fits, Splice, applied, inverse}
use Rattle.textarea_history.specs.Change.{FitsLines}
use Rattle.textarea_history.specs.HistoryLaw.{IsSoundLog}
use Rattle.textarea_history.specs.Log.{Log, Logged, Redoes, Undoes, logged_of, newest, next, recorded}
use Rattle.memory_cases.proofs.Edits.{fits_lines}
use Rattle.textarea_history.proofs.LogLaws.{each_fits, newest_back, sound_edited, sound_redone, sound_undone}

pub undo_fits : {Z : Type 0} (strings : List (String Z)) (log : Log) → 0 < length strings → IsSoundLog (logged_of strings log) → IfSome (newest log) (λ splice. FitsLines strings (inverse splice))
undo_fits strings log some h = by (newest log) refl
  where
    by : (found : Option Splice) → newest log ≡ found → IfSome found (λ splice. FitsLines strings (inverse splice))
    by None e = tt
    by (Some splice) e = fits_lines strings (inverse splice) some (newest_back (logged_of strings log) splice h e).0

pub redo_fits : {Z : Type 0} (strings : List (String Z)) (log : Log) → 0 < length strings → IsSoundLog (logged_of strings log) → IfSome (next log) (FitsLines strings)
redo_fits strings log some h = by (next log) refl
  where
    by : (found : Option Splice) → next log ≡ found → IfSome found (FitsLines strings)
    by None e = tt
    by (Some splice) e = fits_lines strings splice some ((each_fits (logged_of strings log) h).undone 0 splice e)

stays : {Z : Type 0} (lines new : List (String Z)) (log after : Log) → IsSoundLog (logged_of lines log) → after ≡ log → new ≡ lines → IsSoundLog (logged_of new after)
stays lines new log after h log_is lines_are =
    subst (λ l. IsSoundLog (logged_of new l)) (sym log_is) (subst (λ (items : List (String _)). IsSoundLog (logged_of items log)) (sym lines_are) h)

pub sound_undo : {Z E : Type 0} (result : Result (Option Place) E) (lines new : List (String Z)) (log after : Log) → IsSoundLog (logged_of lines log)
    → IfOk result (Undoes (logged_of lines log) (logged_of new after)) → OnErr result (after ≡ log) → OnErr result (new ≡ lines) → IsSoundLog (logged_of new after)
sound_undo (Ok place) lines new log after h undoes log_is lines_are = subst IsSoundLog (sym undoes.is_undone) (sound_undone (logged_of lines log) h)
sound_undo (Err e) lines new log after h undoes log_is lines_are = stays lines new log after h log_is lines_are

pub sound_redo : {Z E : Type 0} (result : Result (Option Place) E) (lines new : List (String Z)) (log after : Log) → IsSoundLog (logged_of lines log)
    → IfOk result (Redoes (logged_of lines log) (logged_of new after)) → OnErr result (after ≡ log) → OnErr result (new ≡ lines) → IsSoundLog (logged_of new after)
sound_redo (Ok place) lines new log after h redoes log_is lines_are = subst IsSoundLog (sym redoes.is_redone) (sound_redone (logged_of lines log) h)
sound_redo (Err e) lines new log after h redoes log_is lines_are = stays lines new log after h log_is lines_are

-- the lines that an edit made, with the history that recorded it
pub sound_made : {Z : Type 0} (logged : Logged) (new : List (String Z)) (after : Log) (splice : Splice) (typed : Bool) (now : ℕ) → IsSoundLog logged → Fits logged.text splice
    → text_of new ≡ applied logged.text splice → after ≡ recorded logged.log splice typed now → IsSoundLog (logged_of new after)
sound_made logged new after splice typed now h fits text_is log_is =
    subst IsSoundLog
    (sym (ap (λ (t : List Symbol). record { text = t; log = after }) text_is
    ∙ ap (λ (l : Log). record { text = applied logged.text splice; log = l }) log_is))
    (sound_edited logged splice typed now h fits)

-- what holds before a step that may fail, and of what the step leaves, holds after it
pub either_way : {V T E : Type 0} (P : V → Log → Type 0) (result : Result T E) (old made new : V) (log logged after : Log) → P old log → P made logged
    → OnOk result ((new ≡ made) × (after ≡ logged)) → OnErr result ((new ≡ old) × (after ≡ log)) → P new after
either_way P (Ok done) old made new log logged after before h is other = subst (P new) (sym is.1) (subst (λ v. P v logged) (sym is.0) h)
either_way P (Err e) old made new log logged after before h other is = subst (P new) (sym is.1) (subst (λ v. P v log) (sym is.0) before)
