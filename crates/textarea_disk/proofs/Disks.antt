-- Lemmas on disks.
use Rattle.std.proofs.Common.{◌≡◌, ◌≢◌, ◌∙◌, ℕ, length, take, drop, true, false, cond, List, [], ◌∷◌, Option, None, Some, inl, inr, refl, sym, ap, subst, arith}
use Rattle.std.proofs.lemmas.Bool.{eq-eqb}
use Rattle.std.proofs.lemmas.List.{append-nil, take_all, take-append-drop}
use Rattle.std.proofs.lemmas.Slice.Eq.{bytes_eq-Decides}
use Rattle.std.specs.List.{AllByRecursion}
use Rattle.std.specs.Str.{bytes_eq}
use Rattle.textarea_disk.specs.Disk.{Content, File, Durable, everything, up_to, nothing, Entries, Disk, IsLeftOf, IsLeftByEntry, IsLeftByOne, MayLeave, Leaves, content_of, seen, with_entries, with_file, IsNumbered}
use Rattle.textarea_disk.specs.Journal.{IsTorn}
use Rattle.std.proofs.lemmas.Bool.{false_from_ne_true}
use borrow.Author.Tests.{ne_eqb}

same_name : (a : List ℕ) → bytes_eq a a ≡ true
same_name a = (bytes_eq-Decides a a).1 refl

other_name : (a b : List ℕ) → a ≢ b → bytes_eq a b ≡ false
other_name a b h = false_from_ne_true (bytes_eq a b) (λ t. h ((bytes_eq-Decides a b).0 t))

-- ---- entries and files

pub at_name : (disk : Disk) (name : List ℕ) (entries : Entries) → (with_entries disk name entries).names name ≡ entries
at_name disk name entries = ap (λ b. cond b entries (disk.names name)) (same_name name)

pub beside_name : (disk : Disk) (name other : List ℕ) (entries : Entries) → other ≢ name → (with_entries disk name entries).names other ≡ disk.names other
beside_name disk name other entries h = ap (λ b. cond b entries (disk.names other)) (other_name other name h)

pub at_file : (disk : Disk) (n : ℕ) (file : File) → (with_file disk n file).files n ≡ file
at_file disk n file = ap (λ b. cond b file (disk.files n)) (eq-eqb n n refl)

pub beside_file : (disk : Disk) (n other : ℕ) (file : File) → other ≢ n → (with_file disk n file).files other ≡ disk.files other
beside_file disk n other file h = ap (λ b. cond b file (disk.files other)) (ne_eqb other n h)

abbrev pub entries_of : Entries → List (Option ℕ)
entries_of entries = entries.now ∷ entries.before

-- ---- files that two disks have alike

abbrev pub Agree : Disk → Disk → List (Option ℕ) → Type 0
Agree old new [] = true ≡ true
Agree old new (None ∷ entries) = Agree old new entries
Agree old new (Some n ∷ entries) = (new.files n ≡ old.files n) × Agree old new entries

pub agree_all : (old new : Disk) → ((n : ℕ) → new.files n ≡ old.files n) → (entries : List (Option ℕ)) → Agree old new entries
agree_all old new h [] = refl
agree_all old new h (None ∷ entries) = agree_all old new h entries
agree_all old new h (Some n ∷ entries) = (h n, agree_all old new h entries)

pub agree_then : (first second third : Disk) (entries : List (Option ℕ)) → Agree first second entries → Agree second third entries → Agree first third entries
agree_then first second third [] h g = refl
agree_then first second third (None ∷ entries) h g = agree_then first second third entries h g
agree_then first second third (Some n ∷ entries) h g = (g.0 ∙ h.0, agree_then first second third entries h.1 g.1)

-- no entry is this file
abbrev pub Apart : ℕ → List (Option ℕ) → Type 0
Apart m [] = true ≡ true
Apart m (entry ∷ entries) = (entry ≢ Some m) × Apart m entries

pub apart_agree : (old new : Disk) (m : ℕ) → ((n : ℕ) → n ≢ m → new.files n ≡ old.files n) → (entries : List (Option ℕ)) → Apart m entries → Agree old new entries
apart_agree old new m h [] a = refl
apart_agree old new m h (None ∷ entries) a = apart_agree old new m h entries a.1
apart_agree old new m h (Some n ∷ entries) a = (h n (λ e. a.0 (ap Some e)), apart_agree old new m h entries a.1)

-- an entry of a disk is not the next file
below_apart : (count : ℕ) (entry : Option ℕ) → IsNumbered count entry → entry ≢ Some count
below_apart count None below e = cc
below_apart count (Some n) below e = let same : n ≡ count = cc in absurd (omega arith)

pub made_apart : (count : ℕ) (entries : List (Option ℕ)) → AllByRecursion (IsNumbered count) entries → Apart count entries
made_apart count [] below = refl
made_apart count (entry ∷ entries) below = (below_apart count entry below.0, made_apart count entries below.1)

-- ---- what a crash leaves

left_agree : (old new : Disk) (entries : List (Option ℕ)) → Agree old new entries → (left : Option Content) → IsLeftByOne new entries left → IsLeftByOne old entries left
left_agree old new [] h left l = l
left_agree old new (None ∷ entries) h left (inl l) = inl l
left_agree old new (None ∷ entries) h left (inr l) = inr (left_agree old new entries h left l)
left_agree old new (Some n ∷ entries) h None (inl l) = inl l
left_agree old new (Some n ∷ entries) h (Some content) (inl l) = inl (subst (λ (f : File). IsLeftOf f.stored f.content content) h.0 l)
left_agree old new (Some n ∷ entries) h left (inr l) = inr (left_agree old new entries h.1 left l)

-- the entries of a name are those of another disk, and so are their files
pub leaves_agree : (P : Option Content → Type 0) (old new : Disk) (name : List ℕ) → new.names name ≡ old.names name → Agree old new (entries_of (old.names name)) → Leaves old name P → Leaves new name P
leaves_agree P old new name same agree leaves =
    record { each = λ left l. leaves.each left (left_agree old new (entries_of (old.names name)) agree left (subst (λ (e : Entries). IsLeftByOne new (entries_of e) left) same l)) }

-- what a synced file leaves
pub synced_left : (disk : Disk) (n : ℕ) (content : Content) → disk.files n ≡ record { content = content; stored = everything } → (left : Option Content) → IsLeftByEntry disk (Some n) left → left ≡ Some content
synced_left disk n content h None l = absurd l
synced_left disk n content h (Some c) l = let same : c ≡ content = subst (λ (f : File). IsLeftOf f.stored f.content c) h l in ap Some same

pub left_or_later : (P : Option Content → Type 0) (old new : Disk) (name : List ℕ) (entry : Option ℕ) → new.names name ≡ record { now = entry; before = entries_of (old.names name) } →
    Agree old new (entries_of (old.names name)) → ((left : Option Content) → IsLeftByEntry new entry left → P left) → Leaves old name P → Leaves new name P
left_or_later P old new name entry same agree first leaves =
    record { each = λ left l. cases left (subst (λ (e : Entries). IsLeftByOne new (entries_of e) left) same l) }
  where
    cases : (left : Option Content) → IsLeftByOne new (entry ∷ entries_of (old.names name)) left → P left
    cases left (inl l) = first left l
    cases left (inr l) = leaves.each left (left_agree old new (entries_of (old.names name)) agree left l)

-- a name with one entry, a synced file
pub leaves_one : (P : Option Content → Type 0) (disk : Disk) (name : List ℕ) (n : ℕ) (content : Content) → disk.names name ≡ record { now = Some n; before = [] } →
    disk.files n ≡ record { content = content; stored = everything } → P (Some content) → Leaves disk name P
leaves_one P disk name n content same file p =
    record { each = λ left l. cases left (subst (λ (e : Entries). IsLeftByOne disk (entries_of e) left) same l) }
  where
    cases : (left : Option Content) → IsLeftByOne disk (Some n ∷ []) left → P left
    cases left (inl l) = subst P (sym (synced_left disk n content file left l)) p
    cases left (inr l) = absurd l

-- ---- what is seen

-- a crash may leave all that is there
pub all_torn : (bytes : List ℕ) → IsTorn bytes bytes
all_torn bytes =
    record { count = length bytes; zeroes = 0; same = sym (append-nil (take (length bytes) bytes) ∙ take_all (length bytes) bytes (omega arith)) }

whole_left : (stored : Durable) (content : Content) → IsLeftOf stored content content
whole_left everything content = refl
whole_left (up_to n) content =
    (drop n content.bytes, all_torn (drop n content.bytes), ap (λ (x : List ℕ). record { bytes = x; mode = content.mode }) (sym (take-append-drop n content.bytes)))
whole_left nothing content = tt

entry_left : (disk : Disk) (entry : Option ℕ) → IsLeftByEntry disk entry (content_of disk entry)
entry_left disk None = refl
entry_left disk (Some n) = whole_left (disk.files n).stored (disk.files n).content

-- a crash may leave what is seen
pub seen_left : (disk : Disk) (name : List ℕ) → MayLeave disk name (seen disk name)
seen_left disk name = inl (entry_left disk (disk.names name).now)

content_agree : (old new : Disk) (entry : Option ℕ) (entries : List (Option ℕ)) → Agree old new (entry ∷ entries) → content_of new entry ≡ content_of old entry
content_agree old new None entries h = refl
content_agree old new (Some n) entries h = ap (λ (f : File). Some f.content) h.0

pub seen_agree : (old new : Disk) (name : List ℕ) → new.names name ≡ old.names name → Agree old new (entries_of (old.names name)) → seen new name ≡ seen old name
seen_agree old new name same agree =
    ap (λ (e : Entries). content_of new e.now) same ∙ content_agree old new (old.names name).now (old.names name).before agree

pub seen_file : (disk : Disk) (name : List ℕ) (n : ℕ) (file : File) → (disk.names name).now ≡ Some n → disk.files n ≡ file → seen disk name ≡ Some file.content
seen_file disk name n file same h = ap (content_of disk) same ∙ ap (λ (f : File). Some f.content) h
