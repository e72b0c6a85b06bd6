-- What the calls of a storage do to it, and to the editor of its text.
use Rattle.std.specs.Prelude.{◌≡◌, ◌≢◌, ◌⊎◌, ◌↔◌, ◌≤◌, ◌^◌, ◌&&◌, ◌||◌, ℕ, Bool, true, false, not, if◌then◌else◌, List, length, Option, None, Some, is_some, Result, Ok, Err, IsTrue, String, string_bytes}
use Rattle.std.specs.Option.{IsSomeAnd}
use Rattle.std.specs.declared.alloc.Global.{Global}
use Rattle.std.specs.declared.io.ErrorKind.{ErrorKind}
use Rattle.std.specs.declared.io.ErrorKind.TheVariants as of_kind
use Rattle.std.specs.declared.time.Duration.{Duration}
use Rattle.textarea_data.specs.Input.{input_of_key}
use Rattle.textarea_data.specs.declared.input.Key.TheVariants.{Char}
use Rattle.textarea_disk.specs.EventTimes.{is_due, noted}
use Rattle.textarea_disk.specs.JournalWrites.{IsWriteOf}
use Rattle.textarea_disk.specs.declared.event_times.EventTimes.{EventTimes}
use Rattle.textarea_disk.specs.declared.journal_write.Journal.{Journal}
use Rattle.textarea_disk.specs.declared.journal_write.JournalWrite.{JournalWrite}
use Rattle.textarea_editor.specs.ControlCharacters.{IsCountShown}
use Rattle.textarea_editor.specs.Draft.{IsUnsaved}
use Rattle.textarea_editor.specs.Editor.{KeepsRest, controls_of, draft_of, end_of, file_name_of, message_of, with_message, wraps_of}
use Rattle.textarea_editor.specs.Effects.{IsWritten, optional_bytes}
use Rattle.textarea_editor.specs.SetUp.{IsOpened}
use Rattle.textarea_editor.specs.Steps.{IsStep}
use Rattle.textarea_editor.specs.declared.editor.Editor.{Editor}
use Rattle.textarea_editor.specs.declared.effect.Effect.{Effect}
use Rattle.textarea_editor.specs.declared.effect.SaveRequest.{SaveRequest}
use Rattle.textarea_editor.specs.declared.message.Message.{Message}
use Rattle.textarea_editor.specs.declared.message.Message.TheVariants as message
use Rattle.textarea_editor.specs.declared.storage.Storage.{Storage}
use Rattle.textarea_files.specs.DiskFiles.{IsHashMade, IsSaveOf, is_saved}
use Rattle.textarea_files.specs.JournalFiles.{none_open}
use Rattle.textarea_files.specs.declared.save_end.SaveEnd.{SaveEnd}
use Rattle.textarea_terminal.specs.declared.input.event.Event.{Event}
use Rattle.textarea_terminal.specs.declared.input.event.Event.TheVariants as event

-- ---- journals

-- the records of the journal, which is on the disk, make this text of the file
pub record MakesText (text : List ℕ) (known : Journal) : Type 0 where
  pub text_is : known.text.items ≡ text
  pub begun : known.is_begun ≡ true

-- they make that of it which a save of the editor's text would give it
pub record MakesTextOf (editor : Editor) (known : Journal) : Type 0 where
  pub written : IsWritten (draft_of editor).area (end_of editor) known.text.items
  pub begun : known.is_begun ≡ true

-- ---- when a journal is written

-- no event waits for a write
abbrev pub none_noted : EventTimes
none_noted = record { times = None }

-- an event is noted or not
abbrev pub noted_if : Bool → EventTimes → ℕ → EventTimes
noted_if true old now = record { times = noted old.times now }
noted_if false old now = old

-- a changed text needs the hash of the bytes that it was read from
abbrev pub IsHashOfChanged : Bool → Storage → List ℕ → Storage → Type 0
IsHashOfChanged true old name new = IsHashMade old.file name new.file
IsHashOfChanged false old name new = new.file ≡ old.file

-- an event at this time is noted if a journal may have to be written for it: of a changed text, or of one that has a journal
pub record IsNoted (old : Storage) (editor : Editor) (now : ℕ) (new : Storage) : Type 0 where
  pub hashed : IsHashOfChanged (draft_of editor).is_changed old (optional_bytes (file_name_of editor)) new
  pub rest : new ≡ record old { file = new.file; times = noted_if ((draft_of editor).is_changed || is_some old.journal) old.times now }

abbrev pub is_write_due : Storage → ℕ → Bool
is_write_due storage now = is_due storage.times.times now

-- ---- writes

-- the text has a name, and may be another one than its file or its journal has
abbrev pub needs_write : Storage → Editor → Bool
needs_write storage editor = is_some (file_name_of editor) && (is_some storage.journal || (draft_of editor).is_changed)

-- what is told of a write that failed: another editor made the journal, or none can be written
abbrev pub journal_trouble : ErrorKind → Message
journal_trouble of_kind.AlreadyExists = message.OpenElsewhere
journal_trouble _ = message.NoJournal

abbrev pub IsJournalTrouble : Message → Type 0
IsJournalTrouble trouble = (trouble ≡ message.OpenElsewhere) ⊎ (trouble ≡ message.NoJournal)

-- the write that brings a journal to another text, and that is carried out, or fails
pub record IsWriteMade {F : Type 0} (writes : F → JournalWrite → Bool → F → Type 0) (old : F) (known : Journal) (made : Bool) (new : F) (next : Journal) : Type 0 where
  pub write : JournalWrite
  pub is : IsWriteOf known.is_begun known.text.items next.text.items write
  pub carried : writes old write made new

-- there was none if the journal had the text
pub record IsNotNeeded {F : Type 0} (old : F) (known : Journal) (new : F) (next : Journal) : Type 0 where
  pub had : MakesText next.text.items known
  pub same : new ≡ old

-- nor if memory ran out
pub record IsWithoutMemory {F : Type 0} (old : F) (known : Journal) (trouble : Message) (new : F) (next : Journal) : Type 0 where
  pub told : trouble ≡ message.NoJournal
  pub known_is : next ≡ known
  pub same : new ≡ old

abbrev pub IsWriteDone : {F : Type 0} → (F → JournalWrite → Bool → F → Type 0) → F → Journal → Option Message → F → Journal → Type 0
IsWriteDone writes old known None new next = IsNotNeeded old known new next ⊎ IsWriteMade writes old known true new next
IsWriteDone writes old known (Some trouble) new next =
    IsWithoutMemory old known trouble new next ⊎ IsWriteMade writes old known false new next

-- the journal has the editor's text, or it failed; where there was none then, there is none
abbrev pub IsTried : Option Message → Storage → Editor → Storage → Type 0
IsTried None old editor new = IsSomeAnd new.journal (MakesTextOf editor)
IsTried (Some trouble) old editor new = IsJournalTrouble trouble × (old.journal ≡ None → new.journal ≡ None)

-- only what is known of the journal, and the open one, may be others
abbrev pub KeepsAllButJournal : Storage → Storage → Type 0
KeepsAllButJournal old new = new ≡ record old { journal = new.journal; journal_file = new.journal_file }

-- the journal is brought to the editor's text, if it has to be
abbrev pub IsBrought : Bool → Option Message → Storage → Editor → Storage → Type 0
IsBrought true trouble old editor new = IsTried trouble old editor new
IsBrought false trouble old editor new = (trouble ≡ None) × (new.journal ≡ old.journal) × (new.journal_file ≡ old.journal_file)

-- the status row takes the message if it shows no other, else it is left to be told
abbrev pub IsTroubleTold : Option Message → Editor → Option Message → Editor → Type 0
IsTroubleTold None old left new = (left ≡ None) × (new ≡ old)
IsTroubleTold (Some trouble) old left new =
    ((message_of old ≡ message.Nothing) × (left ≡ None) × (new ≡ with_message old trouble))
    ⊎ ((message_of old ≢ message.Nothing) × (left ≡ Some trouble) × (new ≡ old))

-- nothing is written after a failure until the text is saved, and nothing as long as a journal that was found is kept
abbrev pub is_writing : Storage → Bool
is_writing storage = not storage.is_off && not storage.is_kept

-- a write, and why it failed, if it did: then it was the last one
pub record IsMade (old : Storage) (editor : Editor) (new : Storage) (shown : Editor) : Type 0 where
  pub trouble : Option Message
  pub brought : IsBrought (needs_write old editor) trouble old editor new
  pub told : IsTroubleTold trouble editor new.untold shown
  pub rest : new ≡ record old {
    times = none_noted;
    journal = new.journal;
    journal_file = new.journal_file;
    is_off = is_some trouble;
    untold = new.untold;
  }

-- what is still to be told is told, and nothing is written
pub record IsOnlyTold (old : Storage) (editor : Editor) (new : Storage) (shown : Editor) : Type 0 where
  pub told : IsTroubleTold old.untold editor new.untold shown
  pub rest : new ≡ record old { times = none_noted; untold = new.untold }

abbrev pub IsWriteIf : Bool → Storage → Editor → Storage → Editor → Type 0
IsWriteIf true old editor new shown = IsMade old editor new shown
IsWriteIf false old editor new shown = IsOnlyTold old editor new shown

-- of the editor only the message may be another
abbrev pub IsWrite : Storage → Editor → Storage → Editor → Type 0
IsWrite old editor new shown = IsWriteIf (is_writing old) old editor new shown

-- ---- ends

-- what is known of a journal is given up, and none is kept
abbrev pub journal_given_up : Storage → Storage
journal_given_up storage = record storage {
  times = none_noted;
  journal = None;
  journal_file = none_open;
  offered = None;
  is_off = false;
  is_kept = false;
  untold = None;
}

-- a journal that was found and is kept stays
abbrev pub ended : Storage → Storage
ended storage = if storage.is_kept then storage else journal_given_up storage

-- the file is as it was saved, and then the journal ends
abbrev pub IsRestOfSave : Bool → Storage → Storage → Type 0
IsRestOfSave true old new = new ≡ record (ended old) { file = new.file; locked = new.locked }
IsRestOfSave false old new = new ≡ record old { file = new.file }

pub record IsSaveDone (old : Storage) (saving : SaveRequest) (end : SaveEnd) (new : Storage) : Type 0 where
  pub saved : IsSaveOf old.file (string_bytes saving.name) (string_bytes saving.text) saving.overwrites end new.file
  pub rest : IsRestOfSave (is_saved end) old new

-- ---- recovery

-- the editor goes on with this text, as after `Editor::recover`; of its message nothing is said
pub record GoesOnWith (text : List ℕ) (old new : Editor) : Type 0 where
  pub written : IsWritten (draft_of new).area (end_of new) text
  pub opened : IsOpened (draft_of new).area (wraps_of new)
  pub wraps : IsTrue (wraps_of new) ↔ (length text ≤ 2 ^ 20)
  pub controls : controls_of new ≡ record (controls_of old) { wraps = wraps_of new; numbers = false }
  pub unsaved : IsUnsaved (draft_of new)
  pub name : file_name_of new ≡ file_name_of old
  pub rest : KeepsRest old new

-- the journal goes on after its records, and the message has the control characters in the text
pub record IsJournalResumed (text : List ℕ) (old new : Storage) (after : Editor) : Type 0 where
  pub known : IsSomeAnd new.journal (MakesText text)
  pub rest : new ≡ record old { offered = None; journal = new.journal; is_kept = false }
  pub counted : IsCountShown (draft_of after).area message.Nothing (message_of after)

-- the journal can't be cut: it is kept, and the message says that none is written
pub record IsJournalLeft (old new : Storage) (after : Editor) : Type 0 where
  pub rest : new ≡ record old { offered = None }
  pub told : message_of after ≡ message.NoJournal

-- what is done with a text that was offered, or without one
abbrev pub IsRecoveryOf : {U E : Type 0} → Option (String Global) → Storage → Editor → Result U E → Storage → Editor → Type 0
IsRecoveryOf None old editor (Ok _) new after = (new ≡ old) × (after ≡ editor)
IsRecoveryOf None old editor (Err _) new after = ⊥
IsRecoveryOf (Some text) old editor (Ok _) new after =
    GoesOnWith (string_bytes text) editor after
    × (IsJournalResumed (string_bytes text) old new after ⊎ IsJournalLeft old new after)
IsRecoveryOf (Some text) old editor (Err _) new after = (new ≡ record old { offered = None }) × (after ≡ editor)

abbrev pub IsRecovery : {U E : Type 0} → Storage → Editor → Result U E → Storage → Editor → Type 0
IsRecovery old editor result new after = IsRecoveryOf old.offered old editor result new after

-- the reply yes
abbrev pub IsYes : Event → Type 0
IsYes (event.Input input) = input ≡ input_of_key (Char 121)
IsYes _ = ⊥

-- the editor takes the reply, and then goes on with the text
pub record IsReplied {U E : Type 0} (old : Storage) (editor : Editor) (result : Result U E) (new : Storage) (after : Editor) : Type 0 where
  pub now : Duration
  pub event : Event
  pub yes : IsYes event
  pub effect : Effect
  pub between : Editor
  pub replied : IsStep editor now event effect between
  pub recovered : IsRecovery old between result new after

abbrev pub IsRestorationIf : {U E : Type 0} → Bool → Storage → Editor → Result U E → Storage → Editor → Type 0
IsRestorationIf true old editor result new after = IsReplied old editor result new after
IsRestorationIf false old editor result new after = IsRecovery old editor result new after

abbrev pub IsRestoration : {U E : Type 0} → Storage → Editor → Result U E → Storage → Editor → Type 0
IsRestoration old editor result new after = IsRestorationIf (is_some old.offered) old editor result new after
