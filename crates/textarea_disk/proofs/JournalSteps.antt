-- Lemmas on the steps of journals.
use Rattle.std.proofs.Common.{◌≡◌, ◌≢◌, ◌++◌, ◌<◌, ◌∙◌, ℕ, true, false, List, [], ◌∷◌, length, replicate, Option, None, Some, inl, inr, refl, sym, ap, subst, arith}
use Rattle.std.proofs.lemmas.List.{append-nil, append_assoc, drop_at, take_all, take_at}
use Rattle.std.specs.List.{AllByRecursion}
use Rattle.textarea_disk.specs.Disk.{Content, Disk, Entries, File, IsLeftByOne, IsLeftOf, Leaves, changed_at, changed_file, everything, up_to, with_entries, with_entry, with_file}
use Rattle.textarea_disk.specs.Journal.{AreRead, IsSized, IsTorn, framed, journal_of}
use Rattle.textarea_disk.specs.Save.{synced}
use Rattle.textarea_disk.specs.JournalSteps.{AtEachStep, HasJournal, HasNoJournal, IsGoneOrWhole, LeavesFirst, ReadsFirst, Writing, after_journal_step, after_writing, appended, made_at, removing_steps, writing_steps}
use Rattle.textarea_disk.specs.declared.journal_step.JournalStep.{JournalStep}
use Rattle.textarea_disk.specs.declared.journal_step.JournalStep.TheVariants.{Append, Create, Remove, Sync, SyncFolder}
use Rattle.textarea_disk.proofs.Disks.{all_torn, at_file, at_name, beside_file, beside_name, entries_of}
use Rattle.textarea_disk.proofs.Journals.{stored_read, whole_read}
use Rattle.textarea_disk.proofs.Saves.{◌&◌}

-- ---- journals

pub journal_append : (a b : List (List ℕ)) → journal_of (a ++ b) ≡ journal_of a ++ journal_of b
journal_append [] b = refl
journal_append (payload ∷ a) b =
    ap (λ (x : List ℕ). framed payload ++ x) (journal_append a b) ∙ sym (append_assoc (framed payload) (journal_of a) (journal_of b))

sized_append : (a b : List (List ℕ)) → AllByRecursion IsSized a → AllByRecursion IsSized b → AllByRecursion IsSized (a ++ b)
sized_append [] b sa sb = sb
sized_append (payload ∷ a) b sa sb = (sa.0, sized_append a b sa.1 sb)

-- what is read of a journal of which the written end is torn
reads_of : (stored written : List (List ℕ)) (torn : List ℕ) (mode : ℕ) → AllByRecursion IsSized stored → AllByRecursion IsSized written → IsTorn (journal_of written) torn →
    (left : Content) → left ≡ record { bytes = journal_of stored ++ torn; mode = mode } → ReadsFirst stored written (Some left)
reads_of stored written torn mode ss sw t left same = λ payloads read.
    stored_read stored written payloads torn ss sw t (subst (AreRead payloads) (ap (λ (c : Content). c.bytes) same) read)

none_torn : (bytes : List ℕ) → IsTorn bytes []
none_torn bytes = record { count = 0; zeroes = 0; same = refl }

-- zeroes alone
zeroes_torn : (bytes torn : List ℕ) → IsTorn [] torn → IsTorn bytes torn
zeroes_torn bytes torn t =
    record { count = 0; zeroes = t.zeroes; same = t.same ∙ ap (λ (x : List ℕ). x ++ replicate t.zeroes 0) (take_all t.count [] (omega arith)) }

-- what is read of a whole journal
reads_whole : (stored written : List (List ℕ)) (mode : ℕ) → AllByRecursion IsSized stored → AllByRecursion IsSized written →
    (left : Content) → left ≡ record { bytes = journal_of stored ++ journal_of written; mode = mode } → ReadsFirst stored written (Some left)
reads_whole stored written mode ss sw left same = reads_of stored written (journal_of written) mode ss sw (all_torn (journal_of written)) left same

reads_stored : (stored written : List (List ℕ)) (mode : ℕ) → AllByRecursion IsSized stored → AllByRecursion IsSized written →
    (left : Content) → left ≡ record { bytes = journal_of stored; mode = mode } → ReadsFirst stored written (Some left)
reads_stored stored written mode ss sw left same =
    reads_of stored written [] mode ss sw (none_torn (journal_of written)) left
    (same ∙ ap (λ (x : List ℕ). record { bytes = x; mode = mode }) (sym (append-nil (journal_of stored))))

-- what is read of a journal that is torn while these bytes are appended
reads_torn : (stored written : List (List ℕ)) (bytes : List ℕ) (mode : ℕ) → AllByRecursion IsSized stored → AllByRecursion IsSized written → bytes ≡ journal_of written →
    (left : Content) → IsLeftOf (up_to (length (journal_of stored))) (record { bytes = journal_of stored ++ bytes; mode = mode }) left → ReadsFirst stored written (Some left)
reads_torn stored written bytes mode ss sw same left l =
    let sure = journal_of stored in
    let torn : IsTorn (journal_of written) l.0 = subst (λ (x : List ℕ). IsTorn x l.0) (drop_at (journal_of stored) bytes (length (journal_of stored)) refl ∙ same) l.1 in
    reads_of stored written l.0 mode ss sw torn left
    (l.2 ∙ ap (λ (x : List ℕ). record { bytes = x ++ l.0; mode = mode }) (take_at (journal_of stored) bytes (length (journal_of stored)) refl))

-- ---- the journal on a disk

-- the name is that of this file, and had these entries before
record Is (name : List ℕ) (n : ℕ) (before : List (Option ℕ)) (file : File) (disk : Disk) : Type 0 where
  named : disk.names name ≡ record { now = Some n; before = before }
  has : disk.files n ≡ file

is_changed : (name : List ℕ) (n : ℕ) (before : List (Option ℕ)) (file : File) (disk : Disk) (change : File → File) → Is name n before file disk → Is name n before (change file) (changed_file disk name change)
is_changed name n before file disk change b =
    let now : (disk.names name).now ≡ Some n = ap (λ (e : Entries). e.now) b.named in
    let changed : Is name n before (change file) (with_file disk n (change (disk.files n))) =
    record { named = b.named; has = at_file disk n (change (disk.files n)) ∙ ap change b.has } in
    subst (λ (entry : Option ℕ). Is name n before (change file) (changed_at entry disk change)) (sym now) changed

is_settled : (name : List ℕ) (n : ℕ) (before : List (Option ℕ)) (file : File) (disk : Disk) → Is name n before file disk → Is name n [] file (with_entries disk name (record { now = (disk.names name).now; before = [] }))
is_settled name n before file disk b =
    record {
      named = at_name disk name (record { now = (disk.names name).now; before = [] }) ∙ ap (λ (e : Entries). record { now = e.now; before = [] }) b.named;
      has = b.has;
    }

abbrev new_file : Writing → File
new_file writing = record { content = record { bytes = []; mode = writing.mode }; stored = up_to 0 }

is_made : (writing : Writing) (disk : Disk) → HasNoJournal disk writing.name → Is writing.name disk.count (None ∷ []) (new_file writing) (after_journal_step writing Create disk)
is_made writing disk b =
    let now : (disk.names writing.name).now ≡ None = ap (λ (e : Entries). e.now) b.unnamed in
    let made : Is writing.name disk.count (None ∷ []) (new_file writing) (made_at None writing disk) =
    record {
      named = at_name disk writing.name (record { now = Some disk.count; before = entries_of (disk.names writing.name) })
          ∙ ap (λ (e : Entries). record { now = Some disk.count; before = entries_of e }) b.unnamed;
      has = at_file disk disk.count (new_file writing);
    } in
    subst (λ (entry : Option ℕ). Is writing.name disk.count (None ∷ []) (new_file writing) (made_at entry writing disk)) (sym now) made

-- what a crash leaves of a name that never had another file, but was none
leaves_is : (P : Option Content → Type 0) (name : List ℕ) (n : ℕ) (file : File) (disk : Disk) → Is name n [] file disk →
    ((left : Content) → IsLeftOf file.stored file.content left → P (Some left)) → Leaves disk name P
leaves_is P name n file disk b p =
    record { each = λ left l. cases left (subst (λ (e : Entries). IsLeftByOne disk (entries_of e) left) b.named l) }
  where
    cases : (left : Option Content) → IsLeftByOne disk (Some n ∷ []) left → P left
    cases None (inl l) = absurd l
    cases (Some left) (inl l) = p left (subst (λ (f : File). IsLeftOf f.stored f.content left) b.has l)
    cases left (inr l) = absurd l

leaves_new : (P : Option Content → Type 0) (name : List ℕ) (n : ℕ) (file : File) (disk : Disk) → Is name n (None ∷ []) file disk →
    P None → ((left : Content) → IsLeftOf file.stored file.content left → P (Some left)) → Leaves disk name P
leaves_new P name n file disk b none p =
    record { each = λ left l. cases left (subst (λ (e : Entries). IsLeftByOne disk (entries_of e) left) b.named l) }
  where
    cases : (left : Option Content) → IsLeftByOne disk (Some n ∷ None ∷ []) left → P left
    cases None (inl l) = absurd l
    cases (Some left) (inl l) = p left (subst (λ (f : File). IsLeftOf f.stored f.content left) b.has l)
    cases left (inr (inl l)) = subst P (sym l) none
    cases left (inr (inr l)) = absurd l

leaves_none : (P : Option Content → Type 0) (name : List ℕ) (disk : Disk) → disk.names name ≡ record { now = None; before = [] } → P None → Leaves disk name P
leaves_none P name disk named none =
    record { each = λ left l. cases left (subst (λ (e : Entries). IsLeftByOne disk (entries_of e) left) named l) }
  where
    cases : (left : Option Content) → IsLeftByOne disk (None ∷ []) left → P left
    cases left (inl l) = subst P (sym l) none
    cases left (inr l) = absurd l

abbrev journal_file : List ℕ → ℕ → File
journal_file bytes mode = record { content = record { bytes = bytes; mode = mode }; stored = everything }

has_journal : (disk : Disk) (name : List ℕ) (payloads : List (List ℕ)) (n mode : ℕ) (bytes : List ℕ) → AllByRecursion IsSized payloads → bytes ≡ journal_of payloads →
    Is name n [] (journal_file bytes mode) disk → HasJournal disk name payloads
has_journal disk name payloads n mode bytes sized same b =
    record { sized = sized; file = n; mode = mode; named = b.named; whole = b.has ∙ ap (λ (x : List ℕ). journal_file x mode) same }

-- ---- a write to a journal that is there

pub later_written : (writing : Writing) (disk : Disk) (stored written : List (List ℕ)) → AllByRecursion IsSized written → writing.bytes ≡ journal_of written → HasJournal disk writing.name stored →
    AtEachStep (LeavesFirst writing.name stored written) writing (writing_steps false) disk × HasJournal (after_writing writing (writing_steps false) disk) writing.name (stored ++ written)
later_written writing disk stored written sized same b =
    let name = writing.name in
    let bytes = journal_of stored ++ writing.bytes in
    let b0 : Is writing.name b.file [] (journal_file (journal_of stored) b.mode) disk = record { named = b.named; has = b.whole } in
    let b1 = is_changed writing.name b.file [] (journal_file (journal_of stored) b.mode) disk (appended writing.bytes) b0 in
    let b2 = is_changed writing.name b.file [] (appended writing.bytes (journal_file (journal_of stored) b.mode)) _ synced b1 in
    let whole : journal_of stored ++ writing.bytes ≡ journal_of stored ++ journal_of written = ap (λ (x : List ℕ). journal_of stored ++ x) same in (
      leaves_is (ReadsFirst stored written) writing.name b.file _ disk b0 (λ left l. reads_stored stored written b.mode b.sized sized left l)
          & leaves_is (ReadsFirst stored written) writing.name b.file _ _ b1 (λ left l. reads_torn stored written writing.bytes b.mode b.sized sized same left l)
          & leaves_is (ReadsFirst stored written) writing.name b.file _ _ b2
          (λ left l. reads_whole stored written b.mode b.sized sized left (l ∙ ap (λ (x : List ℕ). record { bytes = x; mode = b.mode }) whole)),
      has_journal _ writing.name (stored ++ written) b.file b.mode (journal_of stored ++ writing.bytes) (sized_append stored written b.sized sized) (whole ∙ sym (journal_append stored written)) b2,
    )

-- ---- the first write

pub first_written : (writing : Writing) (disk : Disk) (written : List (List ℕ)) → AllByRecursion IsSized written → writing.bytes ≡ journal_of written → HasNoJournal disk writing.name →
    AtEachStep (LeavesFirst writing.name [] written) writing (writing_steps true) disk × HasJournal (after_writing writing (writing_steps true) disk) writing.name written
first_written writing disk written sized same b =
    let b1 = is_made writing disk b in
    let b2 = is_changed writing.name disk.count (None ∷ []) (new_file writing) _ (appended writing.bytes) b1 in
    let b3 = is_changed writing.name disk.count (None ∷ []) (appended writing.bytes (new_file writing)) _ synced b2 in
    let b4 = is_settled writing.name disk.count (None ∷ []) (journal_file writing.bytes writing.mode) _ b3 in
    let whole = λ (left : Content) (l : left ≡ record { bytes = writing.bytes; mode = writing.mode }).
    reads_whole [] written writing.mode tt sized left (l ∙ ap (λ (x : List ℕ). record { bytes = x; mode = writing.mode }) same) in (
      leaves_none (ReadsFirst [] written) writing.name disk b.unnamed refl
          & leaves_new (ReadsFirst [] written) writing.name disk.count _ _ b1 refl
          (λ left l. reads_of [] written l.0 writing.mode tt sized (zeroes_torn (journal_of written) l.0 l.1) left l.2)
          & leaves_new (ReadsFirst [] written) writing.name disk.count _ _ b2 refl (λ left l. reads_torn [] written writing.bytes writing.mode tt sized same left l)
          & leaves_new (ReadsFirst [] written) writing.name disk.count _ _ b3 refl whole
          & leaves_is (ReadsFirst [] written) writing.name disk.count _ _ b4 whole,
      has_journal _ writing.name written disk.count writing.mode writing.bytes sized same b4,
    )

-- ---- a removal

gone_or_whole : (stored : List (List ℕ)) (mode : ℕ) → AllByRecursion IsSized stored → (left : Content) → left ≡ record { bytes = journal_of stored; mode = mode } → IsGoneOrWhole stored (Some left)
gone_or_whole stored mode sized left same = λ payloads read. whole_read stored payloads sized (subst (AreRead payloads) (ap (λ (c : Content). c.bytes) same) read)

settled_none : (name : List ℕ) (disk : Disk) → (disk.names name).now ≡ None → (with_entries disk name (record { now = (disk.names name).now; before = [] })).names name ≡ record { now = None; before = [] }
settled_none name disk now =
    at_name disk name (record { now = (disk.names name).now; before = [] }) ∙ ap (λ (entry : Option ℕ). record { now = entry; before = [] }) now

leaves_removed : (P : Option Content → Type 0) (name : List ℕ) (n : ℕ) (file : File) (disk : Disk) → disk.names name ≡ record { now = None; before = Some n ∷ [] } → disk.files n ≡ file →
    P None → ((left : Content) → IsLeftOf file.stored file.content left → P (Some left)) → Leaves disk name P
leaves_removed P name n file disk named has none p =
    record { each = λ left l. cases left (subst (λ (e : Entries). IsLeftByOne disk (entries_of e) left) named l) }
  where
    cases : (left : Option Content) → IsLeftByOne disk (None ∷ Some n ∷ []) left → P left
    cases left (inl l) = subst P (sym l) none
    cases None (inr (inl l)) = absurd l
    cases (Some left) (inr (inl l)) = p left (subst (λ (f : File). IsLeftOf f.stored f.content left) has l)
    cases left (inr (inr l)) = absurd l

pub removed : (writing : Writing) (disk : Disk) (stored : List (List ℕ)) → HasJournal disk writing.name stored →
    AtEachStep (λ d. Leaves d writing.name (IsGoneOrWhole stored)) writing removing_steps disk × HasNoJournal (after_writing writing removing_steps disk) writing.name
removed writing disk stored b =
    let entries : Entries = record { now = None; before = entries_of (disk.names writing.name) } in
    let b0 : Is writing.name b.file [] (journal_file (journal_of stored) b.mode) disk = record { named = b.named; has = b.whole } in
    let gone : (with_entry disk writing.name None).names writing.name ≡ record { now = None; before = Some b.file ∷ [] } =
    at_name disk writing.name entries ∙ ap (λ (e : Entries). record { now = None; before = entries_of e }) b.named in
    let none : (after_writing writing removing_steps disk).names writing.name ≡ record { now = None; before = [] } =
    settled_none writing.name (with_entry disk writing.name None) (ap (λ (e : Entries). e.now) gone) in (
      leaves_is (IsGoneOrWhole stored) writing.name b.file _ disk b0 (λ left l. gone_or_whole stored b.mode b.sized left l)
          & leaves_removed (IsGoneOrWhole stored) writing.name b.file (journal_file (journal_of stored) b.mode) (with_entry disk writing.name None) gone b.whole tt (λ left l. gone_or_whole stored b.mode b.sized left l)
          & leaves_none (IsGoneOrWhole stored) writing.name (after_writing writing removing_steps disk) none tt,
      record { unnamed = none },
    )

-- ---- other names and files

changed_names : (entry : Option ℕ) (change : File → File) (disk : Disk) (name : List ℕ) → (changed_at entry disk change).names name ≡ disk.names name
changed_names None change disk name = refl
changed_names (Some n) change disk name = refl

changed_files : (entry : Option ℕ) (change : File → File) (disk : Disk) (n : ℕ) → entry ≢ Some n → (changed_at entry disk change).files n ≡ disk.files n
changed_files None change disk n other = refl
changed_files (Some m) change disk n other = beside_file disk m n (change (disk.files m)) (λ e. other (ap Some (sym e)))

below : (n count : ℕ) → n < count → n ≡ count → ⊥
below n count there same = omega arith

made_names : (entry : Option ℕ) (writing : Writing) (disk : Disk) (name : List ℕ) → name ≢ writing.name → (made_at entry writing disk).names name ≡ disk.names name
made_names None writing disk name other = beside_name disk writing.name name (record { now = Some disk.count; before = entries_of (disk.names writing.name) }) other
made_names (Some n) writing disk name other = refl

made_files : (entry : Option ℕ) (writing : Writing) (disk : Disk) (n : ℕ) → n < disk.count → (made_at entry writing disk).files n ≡ disk.files n
made_files None writing disk n there = beside_file disk disk.count n (new_file writing) (λ e. below n disk.count there e)
made_files (Some m) writing disk n there = refl

pub other_names : (writing : Writing) (step : JournalStep) (disk : Disk) (name : List ℕ) → name ≢ writing.name → (after_journal_step writing step disk).names name ≡ disk.names name
other_names writing Create disk name other = made_names (disk.names writing.name).now writing disk name other
other_names writing Append disk name other = changed_names (disk.names writing.name).now (appended writing.bytes) disk name
other_names writing Sync disk name other = changed_names (disk.names writing.name).now synced disk name
other_names writing SyncFolder disk name other = beside_name disk writing.name name (record { now = (disk.names writing.name).now; before = [] }) other
other_names writing Remove disk name other = beside_name disk writing.name name (record { now = None; before = entries_of (disk.names writing.name) }) other

pub other_files : (writing : Writing) (step : JournalStep) (disk : Disk) (n : ℕ) → n < disk.count → (disk.names writing.name).now ≢ Some n → (after_journal_step writing step disk).files n ≡ disk.files n
other_files writing Create disk n there other = made_files (disk.names writing.name).now writing disk n there
other_files writing Append disk n there other = changed_files (disk.names writing.name).now (appended writing.bytes) disk n other
other_files writing Sync disk n there other = changed_files (disk.names writing.name).now synced disk n other
other_files writing SyncFolder disk n there other = refl
other_files writing Remove disk n there other = refl
