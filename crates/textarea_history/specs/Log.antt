-- What a history holds, independent of how it is stored.
use Rattle.std.specs.Prelude.{◌≡◌, Some, None, ℕ, suc, ◌+◌, ◌-◌, ◌*◌, ◌==◌, ◌&&◌, ◌||◌, nat_lt, Bool, true, false, if◌then◌else◌, List, [], ◌∷◌, ◌++◌, length, take, drop, Option, option_map, is_some, slice_get, String}
use Rattle.std.specs.Char.{is_whitespace}
use Rattle.textarea_text.specs.Text.{Symbol, Character, Break, text_of}
use Rattle.textarea_text.specs.Place.{Place}
use Rattle.textarea_text.specs.Splice.{Splice, applied, inverse, place_before, place_after}
use Rattle.textarea_text.specs.Words.{class_of, is_same_class}
use Rattle.textarea_history.specs.Run.{character_of, merged}
use Rattle.textarea_history.specs.Groups.{group_count, is_filled, is_forgotten, is_open, grouped_before, grouped_first, opened, with_edit}
use Rattle.textarea_history.specs.declared.history.groups.Group.{Group}
use Rattle.textarea_history.specs.declared.history.groups.Group.TheVariants.{Closed, Empty, Forgotten}

-- the done edits, the newest last; the undone ones, the next to redo first; their greatest number;
-- whether the newest edit is an open run of typing; the time of the last edit, in nanoseconds; for
-- each edit, the done ones first, whether it is in one group with the one before it; and the open group
pub record Log : Type 0 where
  pub done : List Splice
  pub undone : List Splice
  pub maximum : ℕ
  pub run_open : Bool
  pub last : ℕ
  pub marks : List Bool
  pub group : Group

abbrev pub empty_log : ℕ → Log
empty_log maximum = record {
  done = [];
  undone = [];
  maximum = maximum;
  run_open = false;
  last = 0;
  marks = [];
  group = Closed;
}

-- ---- groups

-- the number of edits of the newest done group, which an undo undoes
abbrev pub newest_group : Log → ℕ
newest_group log = suc (grouped_before log.marks (length log.done - 1))

-- the number of done groups; where no edit is in one group with another, that of the done edits
abbrev pub done_groups : Log → ℕ
done_groups log = group_count log.marks (length log.done)

-- the number of edits of the group that was undone last, which a redo redoes
abbrev pub next_group : Log → ℕ
next_group log = suc (grouped_first (drop (length log.done + 1) log.marks))

-- the number of edits of the oldest group
abbrev pub oldest_group : Log → ℕ
oldest_group log = suc (grouped_first (drop 1 log.marks))

-- the log once a group is opened, if none is open; a run of typing goes on
abbrev pub group_opened : Log → Log
group_opened log = record log { group = opened log.group }

-- the log once the open group is closed, if one is open; a run of typing goes on
abbrev pub group_closed : Log → Log
group_closed log = record log { group = Closed }

-- a group begins, if none is open: a run of typing ends
abbrev pub group_begun : Log → Log
group_begun log = if is_open log.group then log else record log { run_open = false; group = Empty }

-- the open group ends, if one is open: a run of typing ends
abbrev pub group_ended : Log → Log
group_ended log = if is_open log.group then record log { run_open = false; group = Closed } else log

-- ---- a run of typing

-- the character of an edit that counts as typed: with `coalesce`, and of one character
abbrev pub typed_character : Splice → Bool → Option ℕ
typed_character edit coalesce = if coalesce then character_of edit.symbols else None

abbrev pub is_typed : Splice → Bool → Bool
is_typed edit coalesce = is_some (typed_character edit coalesce)

-- the symbol by which a run last grew: its last one for an insertion, its first one for a removal
abbrev pub edge_of : Splice → Option Symbol
edge_of run = slice_get run.symbols (if run.inserts then length run.symbols - 1 else 0)

-- a character continues a run if it is whitespace, or of the class of the run's edge
abbrev pub continues_run : Option Symbol → Option ℕ → Bool
continues_run edge None = false
continues_run None (Some c) = is_whitespace c
continues_run (Some Break) (Some c) = is_whitespace c
continues_run (Some (Character d)) (Some c) = is_whitespace c || is_same_class (class_of d) (class_of c)

abbrev pub is_same_direction : Bool → Bool → Bool
is_same_direction true other = other
is_same_direction false other = if other then false else true

abbrev pub is_run_end : Place → Place → Bool
is_run_end first second = (first.0 == second.0) && (first.1 == second.1)

-- the edit continues the run where it ended
abbrev pub continues : Splice → Splice → Bool
continues run edit =
    is_same_direction run.inserts edit.inserts
    && (is_run_end (place_after run) (place_before edit) && continues_run (edge_of run) (character_of edit.symbols))

abbrev pub continues_newest : Option Splice → Splice → Bool
continues_newest None edit = false
continues_newest (Some run) edit = continues run edit

-- ---- recording

abbrev pub is_empty : List Splice → Bool
is_empty [] = true
is_empty (splice ∷ rest) = false

-- the edit to undo next
abbrev pub newest : Log → Option Splice
newest log = slice_get log.done (length log.done - 1)

-- the pause after which a run is not continued: 500 ms
abbrev pub pause : ℕ
pause = 500 * 1_000_000

-- the edit joins the newest one: it is typed, the run is open, nothing is undone, less than the
-- pause has passed, and it continues the run
abbrev pub joins : Log → Splice → Bool → ℕ → Bool
joins log edit coalesce now =
    (is_typed edit coalesce && log.run_open)
    && (is_empty log.undone && (nat_lt (now - log.last) pause && continues_newest (newest log) edit))

-- the newest edit, extended by this one
abbrev pub grown : Option Splice → Splice → Splice
grown None edit = edit
grown (Some run) edit = merged run edit

-- the done and undone edits are as many as the maximum
abbrev pub is_full : Log → Bool
is_full log = length log.done + length log.undone == log.maximum

-- the done edits that stay when one more is recorded: all, or all but the oldest group
abbrev pub remaining_done : Log → List Splice
remaining_done log = if is_full log then drop (oldest_group log) log.done else log.done

-- their marks
abbrev pub remaining_marks : Log → List Bool
remaining_marks log =
    let marks = take (length log.done) log.marks in
    if is_full log then drop (oldest_group log) marks else marks

-- the edit would be one more of a group of as many edits as the maximum, or to one with more
abbrev pub is_outgrown : Log → Bool
is_outgrown log =
    is_forgotten log.group || (is_filled log.group && (is_full log && is_empty (remaining_done log)))

-- the log of a group that has more edits than the maximum: it holds none of them, and none before
abbrev pub group_forgotten : Log → Log
group_forgotten log =
    record log { done = []; undone = []; run_open = false; marks = []; group = Forgotten }

abbrev pub done_joined : Log → Splice → List Splice
done_joined log edit = take (length log.done - 1) log.done ++ grown (newest log) edit ∷ []

abbrev pub done_appended : Log → Splice → List Splice
done_appended log edit = remaining_done log ++ edit ∷ []

-- the marks with that of one more edit
abbrev pub marks_appended : Log → List Bool
marks_appended log = remaining_marks log ++ is_filled log.group ∷ []

-- the log with these done edits and marks, after one is recorded at the time `now`
abbrev pub with_done : Log → List Splice → List Bool → Bool → ℕ → Log
with_done log done marks run_open now = record {
  done = done;
  undone = [];
  maximum = log.maximum;
  run_open = run_open;
  last = now;
  marks = marks;
  group = with_edit log.group;
}

-- the log after an edit that joins the newest one
abbrev pub joined_log : Log → Splice → ℕ → Log
joined_log log edit now = with_done log (done_joined log edit) log.marks true now

-- the log after an edit that is recorded separately
abbrev pub appended_log : Log → Splice → Bool → ℕ → Log
appended_log log edit coalesce now =
    with_done log (done_appended log edit) (marks_appended log) (is_typed edit coalesce) now

abbrev pub recorded : Log → Splice → Bool → ℕ → Log
recorded log edit coalesce now =
    if log.maximum == 0 then log
    else if joins log edit coalesce now then joined_log log edit now
    else if is_outgrown log then group_forgotten log
    else appended_log log edit coalesce now

-- ---- undo and redo

-- the log after the newest edit is undone; an open group is closed
abbrev pub undone_log : Log → Splice → Log
undone_log log splice = record log {
  done = take (length log.done - 1) log.done;
  undone = splice ∷ log.undone;
  run_open = false;
  group = Closed;
}

-- the edit to redo next, and the log after that
abbrev pub next : Log → Option Splice
next log = slice_get log.undone 0

abbrev pub redone_log : Log → Splice → Log
redone_log log splice = record log {
  done = log.done ++ splice ∷ [];
  undone = drop 1 log.undone;
  run_open = false;
  group = Closed;
}

-- what a history holds, and the number of edits that it can record without allocating
pub record StoredLog : Type 0 where
  pub log : Log
  pub room : ℕ

-- ---- undo and redo of a text

-- a text with the log of its edits
pub record Logged : Type 0 where
  pub text : List Symbol
  pub log : Log

-- lines with the log of their edits
abbrev pub logged_of : {Z : Type 0} → List (String Z) → Log → Logged
logged_of lines log = record { text = text_of lines; log = log }

-- the text and its log after the newest edit is undone, if there is one
abbrev pub undone_by : Option Splice → Logged → Logged
undone_by None logged = logged
undone_by (Some splice) logged = record { text = applied logged.text (inverse splice); log = undone_log logged.log splice }

abbrev pub undone : Logged → Logged
undone logged = undone_by (newest logged.log) logged

-- the text and its log after the edit that was undone last is redone, if there is one
abbrev pub redone_by : Option Splice → Logged → Logged
redone_by None logged = logged
redone_by (Some splice) logged = record { text = applied logged.text splice; log = redone_log logged.log splice }

abbrev pub redone : Logged → Logged
redone logged = redone_by (next logged.log) logged

-- one undo, and the cursor after it: where it was before the edit; none without an edit
pub record Undoes (old new : Logged) (place : Option Place) : Type 0 where
  pub is_undone : new ≡ undone old
  pub cursor : place ≡ option_map place_before (newest old.log)

-- one redo, and the cursor after it: where the edit had left it
pub record Redoes (old new : Logged) (place : Option Place) : Type 0 where
  pub is_redone : new ≡ redone old
  pub cursor : place ≡ option_map place_after (next old.log)
