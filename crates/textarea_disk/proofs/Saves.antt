-- Lemmas on saves.
use Rattle.std.proofs.Common.{◌≡◌, ◌≢◌, ◌⊎◌, ◌∙◌, ℕ, List, [], Option, None, Some, inl, inr, refl, sym, ap, subst}
use Rattle.textarea_disk.specs.Disk.{Content, File, everything, nothing, Entries, Disk, Leaves, MayLeave, seen, with_entries, with_entry, with_file, with_new_file, changed_at, changed_file}
use Rattle.textarea_disk.specs.Plan.{steps_of}
use Rattle.textarea_disk.specs.Save.{Save, saved, created_at, grown_file, written, with_mode, synced, unsynced, after_step, after, AtEachPoint, AtEachFailure, LeavesOnly, LeavesOldOrNew, LeavesWholeText, HasBytes, HasFile, CanBegin, IsWhole}
use Rattle.textarea_disk.specs.declared.step.DiskStep.TheVariants.{Create, SyncFolder, Rename, Remove}
use Rattle.textarea_disk.specs.declared.step.SaveFile.TheVariants as place
use Rattle.textarea_disk.specs.declared.step.SavePlan.{SavePlan}
use Rattle.textarea_disk.specs.declared.step.SavePlan.TheVariants.{Beside, InPlace}
use Rattle.textarea_disk.proofs.Disks.{Agree, Apart, agree_all, apart_agree, agree_then, at_file, at_name, beside_file, beside_name, entries_of, leaves_agree, leaves_one, left_or_later, made_apart, seen_agree, seen_file, seen_left, synced_left}

-- a fact at one point, and those at the others
infixr 20 ◌&◌
pub ◌&◌ : {A B : Type 0} → A → B → A × B
one & others = (one, others)

-- ---- while the copy is written

-- The copy is the file of this number, with this content. The file's name has the entries that it had on the old disk, and their files are as they were.
pub record Begun (save : Save) (old : Disk) (m : ℕ) (copy : File) (disk : Disk) : Type 0 where
  pub named : (disk.names save.copy).now ≡ Some m
  pub has : disk.files m ≡ copy
  pub apart : Apart m (entries_of (old.names save.file))
  pub same : disk.names save.file ≡ old.names save.file
  pub agree : Agree old disk (entries_of (old.names save.file))
  pub differs : save.copy ≢ save.file

abbrev pub new_copy : Save → File
new_copy save = record { content = record { bytes = []; mode = save.first_mode }; stored = nothing }

begun_new : (plan : SavePlan) (save : Save) (disk : Disk) → CanBegin plan save disk → Begun save disk disk.count (new_copy save) (with_new_file disk save.copy (new_copy save))
begun_new plan save disk b =
    let made = with_new_file disk save.copy (new_copy save) in
    let count = disk.count in
    let named : made.names save.copy ≡ record { now = Some count; before = entries_of (disk.names save.copy) } =
    at_name disk save.copy (record { now = Some count; before = entries_of (disk.names save.copy) }) in
    let apart : Apart count (entries_of (disk.names save.file)) = made_apart count (entries_of (disk.names save.file)) (b.is_disk.made save.file) in
    record {
      named = ap (λ (e : Entries). e.now) named;
      has = at_file disk count (new_copy save);
      apart = apart;
      same = beside_name disk save.copy save.file (record { now = Some count; before = entries_of (disk.names save.copy) }) (λ e. b.other_name (sym e));
      agree = apart_agree disk made count (λ n h. beside_file disk count n (new_copy save) h) (entries_of (disk.names save.file)) apart;
      differs = b.other_name;
    }

pub begun_created : (plan : SavePlan) (save : Save) (disk : Disk) → CanBegin plan save disk → Begun save disk disk.count (new_copy save) (after_step save Create disk)
begun_created plan save disk b =
    subst (λ (entry : Option ℕ). Begun save disk disk.count (new_copy save) (created_at entry save disk)) (sym b.no_copy) (begun_new plan save disk b)

begun_written : (save : Save) (old : Disk) (m : ℕ) (copy : File) (disk : Disk) (change : File → File) → Begun save old m copy disk → Begun save old m (change copy) (with_file disk m (change (disk.files m)))
begun_written save old m copy disk change b =
    record {
      named = b.named;
      has = at_file disk m (change (disk.files m)) ∙ ap change b.has;
      apart = b.apart;
      same = b.same;
      agree = agree_then old disk (with_file disk m (change (disk.files m))) (entries_of (old.names save.file)) b.agree
          (apart_agree disk (with_file disk m (change (disk.files m))) m (λ n h. beside_file disk m n (change (disk.files m)) h) (entries_of (old.names save.file)) b.apart);
      differs = b.differs;
    }

-- a step that changes the copy
pub begun_changed : (save : Save) (old : Disk) (m : ℕ) (copy : File) (disk : Disk) (change : File → File) → Begun save old m copy disk → Begun save old m (change copy) (changed_file disk save.copy change)
begun_changed save old m copy disk change b =
    subst (λ (entry : Option ℕ). Begun save old m (change copy) (changed_at entry disk change)) (sym b.named) (begun_written save old m copy disk change b)

-- a crash leaves of the file what it could leave before
pub begun_stored : (save : Save) (old : Disk) (m : ℕ) (copy : File) (disk : Disk) → Begun save old m copy disk → Leaves disk save.file (MayLeave old save.file)
begun_stored save old m copy disk b = leaves_agree (MayLeave old save.file) old disk save.file b.same b.agree (record { each = λ left l. l })

pub begun_leaves : (save : Save) (old : Disk) (m : ℕ) (copy : File) (disk : Disk) → Begun save old m copy disk → LeavesOldOrNew save old disk
begun_leaves save old m copy disk b = record { each = λ left l. inl ((begun_stored save old m copy disk b).each left l) }

pub stored_seen : (save : Save) (stored : Option Content) (disk : Disk) → LeavesOnly disk save.file stored → seen disk save.file ≡ stored
stored_seen save stored disk leaves = leaves.each (seen disk save.file) (seen_left disk save.file)

-- the copy is removed after a failure
pub begun_removed : (save : Save) (old : Disk) (m : ℕ) (copy : File) (disk : Disk) → Begun save old m copy disk → IsWhole save old (with_entry disk save.copy None)
begun_removed save old m copy disk b =
    let entries : Entries = record { now = None; before = entries_of (disk.names save.copy) } in
    let removed = with_entry disk save.copy None in
    record {
      file = inl (seen_agree disk removed save.file (beside_name disk save.copy save.file entries (λ e. b.differs (sym e)))
          (agree_all disk removed (λ n. refl) (entries_of (disk.names save.file))) ∙ seen_agree old disk save.file b.same b.agree);
      no_copy = ap (λ (e : Entries). e.now) (at_name disk save.copy entries);
    }

-- ---- the copy takes the name

abbrev pub whole_copy : Save → File
whole_copy save = record { content = saved save; stored = everything }

renamed_names : (save : Save) (old : Disk) (m : ℕ) (copy : File) (disk : Disk) → Begun save old m copy disk → (after_step save Rename disk).names save.file ≡ record { now = Some m; before = entries_of (disk.names save.file) }
renamed_names save old m copy disk b =
    let entries : Entries = record { now = (disk.names save.copy).now; before = entries_of (disk.names save.file) } in
    let named = with_entries disk save.file entries in
    beside_name named save.copy save.file (record { now = None; before = entries_of (named.names save.copy) }) (λ e. b.differs (sym e))
    ∙ at_name disk save.file entries
    ∙ ap (λ (entry : Option ℕ). record { now = entry; before = entries_of (disk.names save.file) }) b.named

renamed_no_copy : (save : Save) (disk : Disk) → ((after_step save Rename disk).names save.copy).now ≡ None
renamed_no_copy save disk =
    let named = with_entry disk save.file (disk.names save.copy).now in
    ap (λ (e : Entries). e.now) (at_name named save.copy (record { now = None; before = entries_of (named.names save.copy) }))

pub renamed_leaves : (save : Save) (old : Disk) (m : ℕ) (disk : Disk) → Begun save old m (whole_copy save) disk → LeavesOldOrNew save old (after_step save Rename disk)
renamed_leaves save old m disk b =
    let renamed = after_step save Rename disk in
    left_or_later (λ left. MayLeave old save.file left ⊎ (left ≡ Some (saved save))) disk renamed save.file (Some m) (renamed_names save old m (whole_copy save) disk b)
    (agree_all disk renamed (λ n. refl) (entries_of (disk.names save.file)))
    (λ left l. inr (synced_left renamed m (saved save) b.has left l))
    (begun_leaves save old m (whole_copy save) disk b)

pub renamed_whole : (save : Save) (old : Disk) (m : ℕ) (disk : Disk) → Begun save old m (whole_copy save) disk → IsWhole save old (after_step save Rename disk)
renamed_whole save old m disk b =
    let renamed = after_step save Rename disk in
    record {
      file = inr (seen_file renamed save.file m (whole_copy save) (ap (λ (e : Entries). e.now) (renamed_names save old m (whole_copy save) disk b)) b.has);
      no_copy = renamed_no_copy save disk;
    }

pub settled_leaves : (save : Save) (old : Disk) (m : ℕ) (disk : Disk) → Begun save old m (whole_copy save) disk → LeavesOnly (after_step save (SyncFolder place.File) (after_step save Rename disk)) save.file (Some (saved save))
settled_leaves save old m disk b =
    let renamed = after_step save Rename disk in
    let settled = after_step save (SyncFolder place.File) renamed in
    let entries : Entries = record { now = (renamed.names save.file).now; before = [] } in
    leaves_one (λ left. left ≡ Some (saved save)) settled save.file m (saved save)
    (at_name renamed save.file entries ∙ ap (λ (e : Entries). record { now = e.now; before = [] }) (renamed_names save old m (whole_copy save) disk b))
    b.has refl

pub settled_whole : (save : Save) (old : Disk) (m : ℕ) (disk : Disk) → Begun save old m (whole_copy save) disk → IsWhole save old (after_step save (SyncFolder place.File) (after_step save Rename disk))
settled_whole save old m disk b =
    let renamed = after_step save Rename disk in
    let settled = after_step save (SyncFolder place.File) renamed in
    let entries : Entries = record { now = (renamed.names save.file).now; before = [] } in
    record {
      file = inr (stored_seen save (Some (saved save)) settled (settled_leaves save old m disk b));
      no_copy = ap (λ (e : Entries). e.now) (beside_name renamed save.file save.copy entries b.differs) ∙ renamed_no_copy save disk;
    }

-- ---- a save beside

-- what is under the file's name after all steps, at each point, and after a failure at each step
beside : (save : Save) (disk : Disk) (bytes : List ℕ) → CanBegin Beside save disk →
    LeavesOnly (after save (steps_of Beside) disk) save.file (Some (saved save))
    × AtEachPoint (LeavesOldOrNew save disk) save (steps_of Beside) disk
    × AtEachFailure (IsWhole save disk) save bytes (steps_of Beside) disk
beside save disk bytes b =
    let b1 = begun_created Beside save disk b in
    let failed = begun_changed save disk disk.count (new_copy save) _ (written bytes) b1 in
    let b2 = begun_changed save disk disk.count (new_copy save) _ (written save.text) b1 in
    let b3 = begun_changed save disk disk.count (written save.text (new_copy save)) _ (with_mode save.mode) b2 in
    let b4 = begun_changed save disk disk.count (with_mode save.mode (written save.text (new_copy save))) _ synced b3 in
    let last = settled_leaves save disk disk.count _ b4 in (
      last,
      record { each = λ left l. inl l }
          & begun_leaves save disk disk.count _ _ b1
          & begun_leaves save disk disk.count _ _ b2
          & begun_leaves save disk disk.count _ _ b3
          & begun_leaves save disk disk.count _ _ b4
          & renamed_leaves save disk disk.count _ b4
          & record { each = λ left l. inr (last.each left l) },
      record { file = inl refl; no_copy = b.no_copy }
          & begun_removed save disk disk.count _ _ failed
          & begun_removed save disk disk.count _ _ b2
          & begun_removed save disk disk.count _ _ b3
          & begun_removed save disk disk.count _ _ b4
          & renamed_whole save disk disk.count _ b4
          & settled_whole save disk disk.count _ b4,
    )

pub beside_lasting : (save : Save) (disk : Disk) → CanBegin Beside save disk → LeavesOnly (after save (steps_of Beside) disk) save.file (Some (saved save))
beside_lasting save disk b = (beside save disk [] b).0

pub beside_points : (save : Save) (disk : Disk) → CanBegin Beside save disk → AtEachPoint (LeavesOldOrNew save disk) save (steps_of Beside) disk
beside_points save disk b = (beside save disk [] b).1

pub beside_failures : (save : Save) (disk : Disk) (bytes : List ℕ) → CanBegin Beside save disk → AtEachFailure (IsWhole save disk) save bytes (steps_of Beside) disk
beside_failures save disk bytes b = (beside save disk bytes b).2

-- ---- while the file is written over

-- The whole text is in the copy, which a crash leaves under its name. The file is another one, and has this content.
pub record Copied (save : Save) (m n : ℕ) (file : File) (disk : Disk) : Type 0 where
  pub copy : disk.names save.copy ≡ record { now = Some m; before = [] }
  pub whole : disk.files m ≡ record { content = record { bytes = save.text; mode = save.first_mode }; stored = everything }
  pub named : (disk.names save.file).now ≡ Some n
  pub has : disk.files n ≡ file
  pub apart : n ≢ m
  pub differs : save.copy ≢ save.file

abbrev pub text_copy : Save → File
text_copy save = record { content = record { bytes = save.text; mode = save.first_mode }; stored = everything }

-- the file that is there
file_at : (entry : Option ℕ) → HasFile InPlace entry → (n : ℕ) × (entry ≡ Some n)
file_at None h = cc
file_at (Some n) h = (n, refl)

not_copy : (entry : Option ℕ) (m n : ℕ) → entry ≢ Some m → entry ≡ Some n → n ≢ m
not_copy entry m n h named same = h (named ∙ ap Some same)

pub copied_first : (save : Save) (old : Disk) (m n : ℕ) (disk : Disk) → (old.names save.file).now ≡ Some n → Begun save old m (text_copy save) disk → Copied save m n (disk.files n) (after_step save (SyncFolder place.Copy) disk)
copied_first save old m n disk named b =
    let entries : Entries = record { now = (disk.names save.copy).now; before = [] } in
    record {
      copy = at_name disk save.copy entries ∙ ap (λ (entry : Option ℕ). record { now = entry; before = [] }) b.named;
      whole = b.has;
      named = ap (λ (e : Entries). e.now) (beside_name disk save.copy save.file entries (λ e. b.differs (sym e)) ∙ b.same) ∙ named;
      has = refl;
      apart = not_copy (old.names save.file).now m n b.apart.0 named;
      differs = b.differs;
    }

copied_written : (save : Save) (m n : ℕ) (file : File) (disk : Disk) (change : File → File) → Copied save m n file disk → Copied save m n (change file) (with_file disk n (change (disk.files n)))
copied_written save m n file disk change b =
    record {
      copy = b.copy;
      whole = beside_file disk n m (change (disk.files n)) (λ e. b.apart (sym e)) ∙ b.whole;
      named = b.named;
      has = at_file disk n (change (disk.files n)) ∙ ap change b.has;
      apart = b.apart;
      differs = b.differs;
    }

-- a step that changes the file
pub copied_changed : (save : Save) (m n : ℕ) (file : File) (disk : Disk) (change : File → File) → Copied save m n file disk → Copied save m n (change file) (changed_file disk save.file change)
copied_changed save m n file disk change b =
    subst (λ (entry : Option ℕ). Copied save m n (change file) (changed_at entry disk change)) (sym b.named) (copied_written save m n file disk change b)

pub copied_settled : (save : Save) (m n : ℕ) (file : File) (disk : Disk) → Copied save m n file disk → Copied save m n file (after_step save (SyncFolder place.File) disk)
copied_settled save m n file disk b =
    let entries : Entries = record { now = (disk.names save.file).now; before = [] } in
    record {
      copy = beside_name disk save.file save.copy entries b.differs ∙ b.copy;
      whole = b.whole;
      named = ap (λ (e : Entries). e.now) (at_name disk save.file entries) ∙ b.named;
      has = b.has;
      apart = b.apart;
      differs = b.differs;
    }

pub copied_leaves : (save : Save) (old : Disk) (m n : ℕ) (file : File) (disk : Disk) → Copied save m n file disk → LeavesWholeText save old disk
copied_leaves save old m n file disk b =
    inr (inr (leaves_one (HasBytes save.text) disk save.copy m (record { bytes = save.text; mode = save.first_mode }) b.copy b.whole refl))

-- the copy has the whole text
pub copied_seen : (save : Save) (m n : ℕ) (file : File) (disk : Disk) → Copied save m n file disk → HasBytes save.text (seen disk save.copy)
copied_seen save m n file disk b =
    subst (HasBytes save.text) (sym (seen_file disk save.copy m (text_copy save) (ap (λ (e : Entries). e.now) b.copy) b.whole)) refl

-- the file has the content that it had on the old disk, and the copy is removed after a failure
pub copied_removed : (save : Save) (old : Disk) (m n : ℕ) (file : File) (disk : Disk) → Copied save m n file disk → seen old save.file ≡ Some file.content → IsWhole save old (with_entry disk save.copy None)
copied_removed save old m n file disk b same =
    let entries : Entries = record { now = None; before = entries_of (disk.names save.copy) } in
    record {
      file = inl (seen_file (with_entry disk save.copy None) save.file n file
          (ap (λ (e : Entries). e.now) (beside_name disk save.copy save.file entries (λ e. b.differs (sym e))) ∙ b.named) b.has ∙ sym same);
      no_copy = ap (λ (e : Entries). e.now) (at_name disk save.copy entries);
    }

pub removed_leaves : (save : Save) (m n : ℕ) (disk : Disk) → Copied save m n (whole_copy save) disk → LeavesOnly (after_step save Remove (after_step save (SyncFolder place.File) disk)) save.file (Some (saved save))
removed_leaves save m n disk b =
    let entries : Entries = record { now = (disk.names save.file).now; before = [] } in
    let settled = after_step save (SyncFolder place.File) disk in
    leaves_one (λ left. left ≡ Some (saved save)) (after_step save Remove settled) save.file n (saved save)
    (beside_name settled save.copy save.file (record { now = None; before = entries_of (settled.names save.copy) }) (λ e. b.differs (sym e))
    ∙ at_name disk save.file entries ∙ ap (λ (entry : Option ℕ). record { now = entry; before = [] }) b.named)
    b.has refl

pub removed_whole : (save : Save) (old : Disk) (m n : ℕ) (disk : Disk) → Copied save m n (whole_copy save) disk → IsWhole save old (after_step save Remove (after_step save (SyncFolder place.File) disk))
removed_whole save old m n disk b =
    let settled = after_step save (SyncFolder place.File) disk in
    record {
      file = inr (stored_seen save (Some (saved save)) (after_step save Remove settled) (removed_leaves save m n disk b));
      no_copy = ap (λ (e : Entries). e.now) (at_name settled save.copy (record { now = None; before = entries_of (settled.names save.copy) }));
    }

-- ---- a save in place

old_content : (save : Save) (old : Disk) (m n : ℕ) (copy : File) (disk : Disk) → Begun save old m copy disk → (old.names save.file).now ≡ Some n → seen old save.file ≡ Some (disk.files n).content
old_content save old m n copy disk b named =
    sym (seen_agree old disk save.file b.same b.agree) ∙ seen_file disk save.file n (disk.files n) (ap (λ (e : Entries). e.now) b.same ∙ named) refl

-- the same of a save in place; after a failure the whole text may be in the copy
in_place : (save : Save) (disk : Disk) (bytes : List ℕ) → CanBegin InPlace save disk →
    LeavesOnly (after save (steps_of InPlace) disk) save.file (Some (saved save))
    × AtEachPoint (LeavesWholeText save disk) save (steps_of InPlace) disk
    × AtEachFailure (λ d. IsWhole save disk d ⊎ HasBytes save.text (seen d save.copy)) save bytes (steps_of InPlace) disk
in_place save disk bytes b =
    let b1 = begun_created InPlace save disk b in
    let failed = begun_changed save disk disk.count (new_copy save) _ (written bytes) b1 in
    let b2 = begun_changed save disk disk.count (new_copy save) _ (written save.text) b1 in
    let b3 = begun_changed save disk disk.count (written save.text (new_copy save)) _ synced b2 in
    let n = file_at (disk.names save.file).now b.file in
    let c4 = copied_first save disk disk.count n.0 _ n.1 b3 in
    let cut = copied_changed save disk.count n.0 _ _ unsynced c4 in
    let c5 = copied_changed save disk.count n.0 _ _ (grown_file save.text) c4 in
    let torn = copied_changed save disk.count n.0 _ _ (written bytes) c5 in
    let c6 = copied_changed save disk.count n.0 _ _ (written save.text) c5 in
    let c7 = copied_changed save disk.count n.0 _ _ (with_mode save.mode) c6 in
    let c8 = copied_changed save disk.count n.0 _ _ synced c7 in
    let c9 = copied_settled save disk.count n.0 _ _ c8 in
    let last = removed_leaves save disk.count n.0 _ c8 in
    let old_seen = old_content save disk disk.count n.0 _ _ b3 n.1 in (
      last,
      inl (record { each = λ left l. l })
          & inl (begun_stored save disk disk.count _ _ b1)
          & inl (begun_stored save disk disk.count _ _ b2)
          & inl (begun_stored save disk disk.count _ _ b3)
          & copied_leaves save disk disk.count n.0 _ _ c4
          & copied_leaves save disk disk.count n.0 _ _ c5
          & copied_leaves save disk disk.count n.0 _ _ c6
          & copied_leaves save disk disk.count n.0 _ _ c7
          & copied_leaves save disk disk.count n.0 _ _ c8
          & copied_leaves save disk disk.count n.0 _ _ c9
          & inr (inl last),
      inl (record { file = inl refl; no_copy = b.no_copy })
          & inl (begun_removed save disk disk.count _ _ failed)
          & inl (begun_removed save disk disk.count _ _ b2)
          & inl (begun_removed save disk disk.count _ _ b3)
          & inl (copied_removed save disk disk.count n.0 _ _ cut old_seen)
          & inr (copied_seen save disk.count n.0 _ _ torn)
          & inr (copied_seen save disk.count n.0 _ _ c6)
          & inr (copied_seen save disk.count n.0 _ _ c7)
          & inr (copied_seen save disk.count n.0 _ _ c8)
          & inr (copied_seen save disk.count n.0 _ _ c9)
          & inl (removed_whole save disk disk.count n.0 _ c8),
    )

pub in_place_lasting : (save : Save) (disk : Disk) → CanBegin InPlace save disk → LeavesOnly (after save (steps_of InPlace) disk) save.file (Some (saved save))
in_place_lasting save disk b = (in_place save disk [] b).0

pub in_place_points : (save : Save) (disk : Disk) → CanBegin InPlace save disk → AtEachPoint (LeavesWholeText save disk) save (steps_of InPlace) disk
in_place_points save disk b = (in_place save disk [] b).1

pub in_place_failures : (save : Save) (disk : Disk) (bytes : List ℕ) → CanBegin InPlace save disk →
    AtEachFailure (λ d. IsWhole save disk d ⊎ HasBytes save.text (seen d save.copy)) save bytes (steps_of InPlace) disk
in_place_failures save disk bytes b = (in_place save disk bytes b).2

-- ---- both

pub lasting : (plan : SavePlan) (save : Save) (disk : Disk) → CanBegin plan save disk → LeavesOnly (after save (steps_of plan) disk) save.file (Some (saved save))
lasting Beside save disk b = beside_lasting save disk b
lasting InPlace save disk b = in_place_lasting save disk b
