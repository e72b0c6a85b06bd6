-- What is known of a file on disk, and what is asked before it is overwritten.
use Rattle.std.specs.Prelude.{◌≡◌, ◌⊎◌, ◌==◌, ◌&&◌, ◌||◌, ◌^◌, Bool, true, false, ℕ, List, [], length, nat_lt, Option, None, Some, is_none, IfSome, Result, Ok, Err, String, string_bytes, if◌then◌else◌}
use Rattle.std.specs.Io.KnownBytes.{Consumes, IsAtEnd}
use Rattle.std.specs.declared.alloc.Global.{Global}
use Rattle.std.specs.Ordering.{int_eq}
use Rattle.textarea_disk.specs.ContentHash.{hash_from}
use Rattle.textarea_disk.specs.Journal.{hash_of}
use Rattle.textarea_files.specs.declared.disk.DiskFile.{DiskFile}
use Rattle.textarea_files.specs.declared.disk.known.Known.{Known}
use Rattle.textarea_files.specs.declared.disk.known.Stamp.{Stamp}
use Rattle.textarea_files.specs.declared.save_end.SaveEnd.{SaveEnd}
use Rattle.textarea_files.specs.declared.save_end.SaveEnd.TheVariants as ended
use Rattle.textarea_files.specs.declared.trouble.Trouble.{Trouble}

-- ---- what is known

abbrev pub is_same_stamp : Stamp → Stamp → Bool
is_same_stamp a b = a.device == b.device && a.node == b.node && a.size == b.size && int_eq a.seconds b.seconds && int_eq a.nanoseconds b.nanoseconds

-- whether a hash is known, and is this one
abbrev pub is_hash : Option ℕ → Option ℕ → Bool
is_hash None other = false
is_hash (Some hash) None = false
is_hash (Some hash) (Some other) = hash == other

-- whether a file's content is as it was by its hash, if that was known; one that couldn't be read is not
abbrev pub is_same_content : Option ℕ → Option ℕ → Bool
is_same_content None now = true
is_same_content (Some hash) now = is_hash (Some hash) now

-- whether a file is as it was, if its state and the hash of its bytes are these now
abbrev pub is_as_known : Known → Stamp → Option ℕ → Bool
is_as_known known now hash = is_same_stamp known.stamp now && is_same_content known.content hash

-- whether this is known of the file of this name
abbrev pub is_named : Option Known → List ℕ → Bool
is_named None name = false
is_named (Some known) name = known.name == hash_of name

-- what is asked before a file that exists is overwritten
abbrev pub question_of : Option Known → List ℕ → Stamp → Option ℕ → Option SaveEnd
question_of None name now hash = Some ended.Exists
question_of (Some known) name now hash =
    if known.name == hash_of name then (if is_as_known known now hash then None else Some ended.ChangedOnDisk) else Some ended.Exists

-- ---- what is known later

-- the hash of no bytes, which counts as that of a file that changed
abbrev pub no_hash : ℕ
no_hash = 0xcbf2_9ce4_8422_2325

abbrev pub hash_if_same : Bool → ℕ → ℕ
hash_if_same is_same hash = if is_same then hash else no_hash

abbrev pub hash_at : Stamp → Option Stamp → Option ℕ → ℕ
hash_at stamp now None = no_hash
hash_at stamp None (Some hash) = no_hash
hash_at stamp (Some now) (Some hash) = hash_if_same (is_same_stamp now stamp) hash

-- with the hash of the file's bytes, if its state is as it was
abbrev pub with_hash : Known → Option Stamp → Option ℕ → Known
with_hash known now hash = record known { content = Some (hash_at known.stamp now hash) }

-- after a failed save of a text with a hash: the file has the bytes that were known, or those of the text, or it isn't known
abbrev pub known_after_failure : Known → Option Stamp → Option ℕ → ℕ → Known
known_after_failure known None hash text = known
known_after_failure known (Some now) None text = known
known_after_failure known (Some now) (Some hash) text =
    if hash == text || is_hash known.content (Some hash) then record { name = known.name; stamp = now; content = Some hash } else known

-- ---- what is known after a call

abbrev pub known_as : List ℕ → Stamp → Option ℕ → Known
known_as name stamp content = record { name = hash_of name; stamp = stamp; content = content }

-- what is known of the file of this name, in some state, and with this hash, if there is one
pub record IsKnownAs (name : List ℕ) (content : Option ℕ) (file : DiskFile) : Type 0 where
  pub stamp : Stamp
  pub known : file.known ≡ Some (known_as name stamp content)

-- the hash of a text that was read, if it has fewer than 2^24 bytes
abbrev pub content_at_opening : List ℕ → Option ℕ
content_at_opening text = if nat_lt (length text) (2 ^ 24) then Some (hash_of text) else None

-- a text that was read is known under its name, by its hash; else what was known stays
abbrev pub IsRead : DiskFile → List ℕ → Result (Option (String Global)) Trouble → DiskFile → Type 0
IsRead old name (Ok (Some text)) new = IsKnownAs name (content_at_opening (string_bytes text)) new
IsRead old name (Ok None) new = new ≡ old
IsRead old name (Err trouble) new = new ≡ old

-- what is known of the file of this name without a hash gets one
abbrev pub needs_hash : Option Known → List ℕ → Bool
needs_hash None name = false
needs_hash (Some known) name = is_none known.content && known.name == hash_of name

abbrev pub IsKnownWithHash : Option Known → Option Known → Type 0
IsKnownWithHash None new = new ≡ None
IsKnownWithHash (Some known) new = (now : Option Stamp) × (hash : Option ℕ) × (new ≡ Some (with_hash known now hash))

abbrev pub IsHashMadeIf : Bool → DiskFile → DiskFile → Type 0
IsHashMadeIf true old new = IsKnownWithHash old.known new.known
IsHashMadeIf false old new = new ≡ old

abbrev pub IsHashMade : DiskFile → List ℕ → DiskFile → Type 0
IsHashMade old name new = IsHashMadeIf (needs_hash old.known name) old new

-- the question for the hash that the file's bytes have, or for none if they can't be read
pub record IsQuestion (file : DiskFile) (name : List ℕ) (now : Stamp) (question : Option SaveEnd) : Type 0 where
  pub hash : Option ℕ
  pub asked : question ≡ question_of file.known name now hash

abbrev pub IsKnownAfterFailure : Option Known → ℕ → Option Known → Type 0
IsKnownAfterFailure None text new = new ≡ None
IsKnownAfterFailure (Some known) text new = (now : Option Stamp) × (hash : Option ℕ) × (new ≡ Some (known_after_failure known now hash text))

abbrev pub IsAfterFailureIf : Bool → DiskFile → List ℕ → DiskFile → Type 0
IsAfterFailureIf true old text new = IsKnownAfterFailure old.known (hash_of text) new.known
IsAfterFailureIf false old text new = new ≡ old

-- what is known of a file of another name stays
abbrev pub IsAfterFailure : DiskFile → List ℕ → List ℕ → DiskFile → Type 0
IsAfterFailure old name text new = IsAfterFailureIf (is_named old.known name) old text new

-- ---- saves

-- the file has the new bytes
abbrev pub is_saved : SaveEnd → Bool
is_saved ended.Saved = true
is_saved ended.SavedAnew = true
is_saved ended.Unsynced = true
is_saved end = false

-- how a save ended whose steps were made: no sync made sure of the name, or the file had been deleted, or neither
abbrev pub saved_end : Bool → Bool → SaveEnd
saved_end false was_deleted = ended.Unsynced
saved_end true true = ended.SavedAnew
saved_end true false = ended.Saved

-- What a save of a text under a name does to what is known, by how it ended. It asks only if it may not overwrite: whether the file
-- changed only of the one that is known, and whether another one may be replaced only of one that isn't. It then did nothing.
abbrev pub IsSaveOf : DiskFile → List ℕ → List ℕ → Bool → SaveEnd → DiskFile → Type 0
IsSaveOf old name text overwrites ended.Saved new = IsKnownAs name (Some (hash_of text)) new
IsSaveOf old name text overwrites ended.SavedAnew new = IsKnownAs name (Some (hash_of text)) new × (is_named old.known name ≡ true)
IsSaveOf old name text overwrites ended.Unsynced new = IsKnownAs name (Some (hash_of text)) new
IsSaveOf old name text overwrites ended.ChangedOnDisk new = (overwrites ≡ false) × (is_named old.known name ≡ true) × (new ≡ old)
IsSaveOf old name text overwrites ended.Exists new = (overwrites ≡ false) × (is_named old.known name ≡ false) × (new ≡ old)
IsSaveOf old name text overwrites (ended.Failed trouble) new = (new ≡ old) ⊎ IsAfterFailure old name text new

-- ---- the hash of bytes that are read

-- the hash is that of the bytes that were left to be read, if they are known, and none is left
pub record HasHashOfRest (old new : Option (List ℕ)) (hash : ℕ) : Type 0 where
  pub of_all : IfSome old (λ bytes. hash ≡ hash_of bytes)
  pub none_left : IsAtEnd new

-- the hash after a piece of the bytes that were left, or none at their end
abbrev pub IsHashAfterPiece : Option (List ℕ) → Option (List ℕ) → ℕ → Option ℕ → Type 0
IsHashAfterPiece old new hash None = Consumes old new [] × IsAtEnd new
IsHashAfterPiece old new hash (Some next) = (piece : List ℕ) × Consumes old new piece × (next ≡ hash_from hash piece)
