-- A disk: what is under each name, and what a crash may leave there.
use Rattle.std.specs.Prelude.{◌≡◌, ◌⊎◌, ◌++◌, ◌<◌, ◌+◌, ◌==◌, ℕ, if◌then◌else◌, List, [], ◌∷◌, take, drop, Option, None, Some}
use Rattle.std.specs.List.{AllByRecursion}
use Rattle.std.specs.Str.{bytes_eq}
use Rattle.textarea_disk.specs.Journal.{IsTorn}

-- a file's bytes and mode bits
pub record Content : Type 0 where
  pub bytes : List ℕ
  pub mode : ℕ

-- What is sure to be on the disk of a file, after a sync: all of it; its first bytes, so many, to which others were appended since;
-- or nothing, since it was written over, or changed in another way.
pub data Durable : Type 0 where
  everything : Durable
  up_to : ℕ → Durable
  nothing : Durable

pub record File : Type 0 where
  pub content : Content
  pub stored : Durable

-- What a crash may leave of a file. Of bytes that were appended it may leave some, and zeroes; if nothing is sure, it may leave any
-- bytes, of any number, and any mode bits.
abbrev pub IsLeftOf : Durable → Content → Content → Type 0
IsLeftOf everything content left = left ≡ content
IsLeftOf (up_to n) content left =
    (torn : List ℕ) × IsTorn (drop n content.bytes) torn × (left ≡ record { bytes = take n content.bytes ++ torn; mode = content.mode })
IsLeftOf nothing content left = Unit {0}

-- An entry of a folder: the number of a file, or none. A crash leaves an entry that the name has now, or one that it had since the
-- folder was synced last: each name by itself, as no order of their writes is known.
pub record Entries : Type 0 where
  pub now : Option ℕ
  pub before : List (Option ℕ)

-- Names are bytes. Files are numbered in the order in which they were made, so that a file may have several names.
pub record Disk : Type 0 where
  pub names : List ℕ → Entries
  pub files : ℕ → File
  pub count : ℕ

-- ---- what a crash leaves

abbrev pub IsLeftByEntry : Disk → Option ℕ → Option Content → Type 0
IsLeftByEntry disk None left = left ≡ None
IsLeftByEntry disk (Some n) None = ⊥
IsLeftByEntry disk (Some n) (Some left) = IsLeftOf (disk.files n).stored (disk.files n).content left

abbrev pub IsLeftByOne : Disk → List (Option ℕ) → Option Content → Type 0
IsLeftByOne disk [] left = ⊥
IsLeftByOne disk (entry ∷ entries) left = IsLeftByEntry disk entry left ⊎ IsLeftByOne disk entries left

-- a crash now may leave this under the name: a file with this content, or no file
abbrev pub MayLeave : Disk → List ℕ → Option Content → Type 0
MayLeave disk name left = IsLeftByOne disk ((disk.names name).now ∷ (disk.names name).before) left

-- a crash now leaves something with this property under the name
pub record Leaves (disk : Disk) (name : List ℕ) (Property : Option Content → Type 0) : Type 0 where
  pub each : (left : Option Content) → MayLeave disk name left → Property left

-- what a program sees under the name
abbrev pub content_of : Disk → Option ℕ → Option Content
content_of disk None = None
content_of disk (Some n) = Some (disk.files n).content

abbrev pub seen : Disk → List ℕ → Option Content
seen disk name = content_of disk (disk.names name).now

-- ---- what changes a disk

abbrev pub with_entries : Disk → List ℕ → Entries → Disk
with_entries disk name entries =
    record { names = λ other. if bytes_eq other name then entries else disk.names other; files = disk.files; count = disk.count }

-- the name has another entry from now on, and the one before until the folder is synced
abbrev pub with_entry : Disk → List ℕ → Option ℕ → Disk
with_entry disk name entry =
    with_entries disk name (record { now = entry; before = (disk.names name).now ∷ (disk.names name).before })

abbrev pub with_file : Disk → ℕ → File → Disk
with_file disk n file =
    record { names = disk.names; files = λ other. if other == n then file else disk.files other; count = disk.count }

-- a new file under a name
abbrev pub with_new_file : Disk → List ℕ → File → Disk
with_new_file disk name file =
    let made = with_entry (with_file disk disk.count file) name (Some disk.count) in
    record { names = made.names; files = made.files; count = disk.count + 1 }

-- the file of an entry is changed so, if there is one
abbrev pub changed_at : Option ℕ → Disk → (File → File) → Disk
changed_at None disk change = disk
changed_at (Some n) disk change = with_file disk n (change (disk.files n))

-- the file of a name
abbrev pub changed_file : Disk → List ℕ → (File → File) → Disk
changed_file disk name change = changed_at (disk.names name).now disk change

-- ---- which disks there are

abbrev pub IsNumbered : ℕ → Option ℕ → Type 0
IsNumbered count None = Unit {0}
IsNumbered count (Some n) = n < count

-- each entry is the number of a file that was made
pub record IsDisk (disk : Disk) : Type 0 where
  pub made : (name : List ℕ) → AllByRecursion (IsNumbered disk.count) ((disk.names name).now ∷ (disk.names name).before)
