-- Lemmas on what a storage does with its journal.
use Rattle.std.proofs.Common.{◌≡◌, ◌&&◌, ◌||◌, ◌∙◌, Bool, true, false, not, IfSome, List, ℕ, Option, None, Some, Ok, String, Vec, refl, sym, ap, inr, is_none, is_some, subst, string_bytes}
use Rattle.std.proofs.lemmas.Bool.{and_parts, false≢true}
use Rattle.std.proofs.lemmas.Str.{IsUtf8-from_is_utf8, IsUtf8-string_bytes, is_utf8-from_IsUtf8}
use Rattle.std.specs.Option.{IsSomeAnd}
use Rattle.std.specs.Str.{IsUtf8, is_utf8}
use Rattle.std.specs.String.{string_vec}
use Rattle.std.specs.declared.alloc.Global.{Global}
use Rattle.textarea_disk.specs.JournalWrites.{IsWriteOf}
use Rattle.textarea_disk.specs.TextChange.{IsReadFor}
use Rattle.textarea_disk.specs.declared.journal_write.Journal.{Journal}
use Rattle.textarea_disk.specs.declared.journal_write.JournalWrite.{JournalWrite}
use Rattle.textarea_disk.specs.declared.text_change.Recovery.{Recovery}
use Rattle.textarea_editor.specs.Effects.{optional_bytes}
use Rattle.textarea_editor.specs.Openings.{IsFileOpened, IsFileTaken, IsOpenedAt, IsOpenedWith, IsTextOf, IsWeighed, KeepsAllButFile, has_changes, has_text, told_at_opening, with_told}
use Rattle.textarea_editor.specs.Storage.{MakesTextOf, IsBrought, IsWrite, IsWriteDone, IsWriteIf, is_writing, needs_write}
use Rattle.textarea_editor.specs.declared.editor.Editor.{Editor}
use Rattle.textarea_editor.specs.declared.message.Message.{Message}
use Rattle.textarea_editor.specs.declared.storage.Storage.{Storage}
use Rattle.textarea_files.specs.DiskFiles.{IsRead}
use Rattle.textarea_files.specs.JournalFiles.{IsJournalFound}
use Rattle.textarea_files.specs.declared.disk.DiskFile.{DiskFile}
use Rattle.textarea_files.specs.declared.disk.journal_file.FoundJournal.{FoundJournal}
use Rattle.textarea_files.specs.declared.disk.journal_file.JournalFile.{JournalFile}
use Rattle.textarea_files.specs.declared.trouble.Trouble.{Trouble}

pub some_text : (found : Recovery) (text : String Global) → found.is_of_file ≡ true → string_vec text ≡ found.text → IsTextOf (has_text found) found.text.items (Some text)
some_text found text of_file same =
    let bytes : string_bytes text ≡ found.text.items = ap (λ (v : Vec ℕ Global). v.items) same in
    let utf8 : is_utf8 found.text.items ≡ true = is_utf8-from_IsUtf8 found.text.items (subst IsUtf8 bytes (IsUtf8-string_bytes text)) in
    let both : has_text found ≡ true = ap (λ (b : Bool). b && is_utf8 found.text.items) of_file ∙ utf8 in
    subst (λ (b : Bool). IsTextOf b found.text.items (Some text)) (sym both) bytes

no_text_by : (bytes : List ℕ) (of_file utf8 : Bool) → of_file ≡ true → (utf8 ≡ true → ⊥) → IsTextOf (of_file && utf8) bytes None
no_text_by bytes true true of_file none = absurd (none refl)
no_text_by bytes true false of_file none = refl
no_text_by bytes false utf8 of_file none = refl

pub no_text : (found : Recovery) → found.is_of_file ≡ true → (IsUtf8 found.text.items → ⊥) → IsTextOf (has_text found) found.text.items None
no_text found of_file none = no_text_by found.text.items found.is_of_file (is_utf8 found.text.items) of_file (λ e. none (IsUtf8-from_is_utf8 found.text.items e))

-- ---- a write

done : {F : Type 0} (writes : F → JournalWrite → Bool → F → Type 0) (old new : F) (known next : Journal) (write : JournalWrite) (trouble : Option Message)
    → IsWriteOf known.is_begun known.text.items next.text.items write → writes old write (is_none trouble) new → IsWriteDone writes old known trouble new next
done writes old new known next write None is made = inr (record { write = write; is = is; carried = made })
done writes old new known next write (Some trouble) is made = inr (record { write = write; is = is; carried = made })

pub write_done : {F : Type 0} (writes : F → JournalWrite → Bool → F → Type 0) (old new : F) (known next : Journal) (found : Option JournalWrite) (write : JournalWrite) (trouble : Option Message) (text : List ℕ)
    → IfSome found (IsWriteOf known.is_begun known.text.items text) → found ≡ Some write → next.text.items ≡ text → writes old write (is_none trouble) new
    → IsWriteDone writes old known trouble new next
write_done writes old new known next found write trouble text some is e made =
    let of_text : IsWriteOf known.is_begun known.text.items text write =
    subst (λ (f : Option JournalWrite). IfSome f (IsWriteOf known.is_begun known.text.items text)) is some in
    done writes old new known next write trouble (subst (λ (b : List ℕ). IsWriteOf known.is_begun known.text.items b write) (sym e) of_text) made

made_without_trouble : (trouble : Option Message) (old new : Storage) (editor : Editor) → is_some trouble ≡ false → IsBrought true trouble old editor new → IsSomeAnd new.journal (MakesTextOf editor)
made_without_trouble None old new editor none brought = brought
made_without_trouble (Some trouble) old new editor none brought = absurd (false≢true (sym none))

not_off : (storage : Storage) → is_writing storage ≡ true → storage.is_off ≡ false
not_off storage writing = by_off storage.is_off (and_parts (not storage.is_off) (not storage.is_kept) writing).0
  where
    by_off : (off : Bool) → not off ≡ true → off ≡ false
    by_off false e = refl
    by_off true e = sym e

written_by : (writing : Bool) (old new : Storage) (editor shown : Editor) → is_writing old ≡ writing → IsWriteIf writing old editor new shown → needs_write old editor ≡ true → is_writing new ≡ true
    → IsSomeAnd new.journal (MakesTextOf editor)
written_by true old new editor shown is made needs goes =
    let none : is_some made.trouble ≡ false = sym (ap (λ (s : Storage). s.is_off) made.rest) ∙ not_off new goes in
    made_without_trouble made.trouble old new editor none (subst (λ (b : Bool). IsBrought b made.trouble old editor new) needs made.brought)
written_by false old new editor shown is told needs goes =
    let same : is_writing new ≡ is_writing old = ap is_writing told.rest in
    absurd (false≢true (sym is ∙ sym same ∙ goes))

pub written : (old new : Storage) (editor shown : Editor) → IsWrite old editor new shown → needs_write old editor ≡ true → is_writing new ≡ true → IsSomeAnd new.journal (MakesTextOf editor)
written old new editor shown = written_by (is_writing old) old new editor shown refl

-- ---- a text that is opened

pub opened_with : (name read bytes journal : List ℕ) (text : Option (String Global)) (found : Recovery) (changed : Bool) (old new : Storage) (editor opened after : Editor)
    → read ≡ optional_bytes text → bytes ≡ journal → IsReadFor read bytes found → changed ≡ has_changes read found
    → IsFileOpened name text editor opened → IsWeighed changed found old opened new after → IsOpenedWith journal name text old editor new after
opened_with name read bytes journal text found changed old new editor opened after e f is h o w = record {
  opened = opened;
  is_opened = o;
  found = found;
  read = subst (λ (b : List ℕ). IsReadFor b journal found) e (subst (λ (b : List ℕ). IsReadFor read b found) f is);
  weighed = subst (λ (b : Bool). IsWeighed b found old opened new after) (h ∙ ap (λ (b : List ℕ). has_changes b found) e) w;
}

pub file_taken : (old locked new : Storage) (editor opened after : Editor) (name : List ℕ) (text : Option (String Global)) (file : DiskFile) (journal : JournalFile)
    (found : FoundJournal) (first : Bool) (refusal : Option Trouble)
    → IsRead old.file name (Ok text) file → IsJournalFound locked.journal_file found journal → locked ≡ record old { file = file; locked = locked.locked }
    → IsOpenedAt found name text (record locked { journal_file = journal }) editor new opened
    → after ≡ with_told (told_at_opening (new.is_off || not first) refusal) opened → IsFileTaken old editor name new after
file_taken old locked new editor opened after name text file journal found first refusal read is_found lock at told = record {
  is_found = subst (λ (j : JournalFile). IsJournalFound j found journal) (ap (λ (s : Storage). s.journal_file) lock) is_found;
  text = text;
  found = found;
  between = record locked { journal_file = journal };
  read = subst (IsRead old.file name (Ok text)) (sym (ap (λ (s : Storage). s.file) lock)) read;
  kept = subst (λ (s : Storage). KeepsAllButFile old (record s { journal_file = journal })) (sym lock) refl;
  opened = opened;
  is_opened = at;
  locked = first;
  refusal = refusal;
  told = told;
}
