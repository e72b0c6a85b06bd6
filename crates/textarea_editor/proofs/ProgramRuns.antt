-- Runs of the program: the file that the disk was given last, and what a crash leaves of it.
use Rattle.std.proofs.Common.{◌≡◌, ◌⊎◌, ◌∙◌, ◌↔◌, ℕ, Bool, true, false, List, [], ◌∷◌, map, Option, None, Some, ap, inl, inr, refl, subst, sym}
use Rattle.textarea_disk.specs.Disk.{Content, Disk, Leaves, MayLeave}
use Rattle.textarea_disk.specs.Plan.{steps_of}
use Rattle.textarea_disk.specs.Save.{AtEachPoint, CanBegin, HasBytes, LeavesOldOrNew, LeavesOnly, LeavesWholeText, Save, after, after_step, saved}
use Rattle.textarea_disk.specs.declared.step.DiskStep.{DiskStep}
use Rattle.textarea_disk.specs.declared.step.SavePlan.{SavePlan}
use Rattle.textarea_disk.specs.declared.step.SavePlan.TheVariants.{Beside, InPlace}
use Rattle.textarea_editor.proofs.SaveRuns.{Stands, led, stands_first, turns_stand, unchanged_stands}
use Rattle.textarea_editor.specs.Draft.{Copy, IsExact, IsHonest}
use Rattle.textarea_editor.specs.Effects.{IsWritten, text_of_saving}
use Rattle.textarea_editor.specs.Runs.{Act, AreActs, AreDisks, Begins, DiskTurn, Folder, LastGiven, IsDiskAfter, IsEither, IsOnlyShown, IsSavedOnDisk, IsSureIf, IsSureOf, KeepsFiles, LeavesOne, Running, given_after_acts, given_after_effect, given_after_turns, reads, shows, takes, turn_of, writes}
use Rattle.textarea_editor.specs.Turns.{GivenFile, file_of, given_after, given_by}
use Rattle.textarea_editor.specs.declared.editor.Editor.{Editor}
use Rattle.textarea_editor.specs.declared.effect.Effect.{Effect}
use Rattle.textarea_editor.specs.declared.effect.Effect.TheVariants as does
use Rattle.textarea_editor.specs.declared.effect.SaveRequest.{SaveRequest}
use Rattle.textarea_files.specs.declared.save_end.SaveEnd.{SaveEnd}
use Rattle.textarea_files.specs.declared.save_end.SaveEnd.TheVariants as ended
use Rattle.textarea_text.specs.Text.{Symbol, lines, lines_of}
use Rattle.tui_textarea.specs.State.{State}

-- ---- the file that was given last

effect_file : (effect : Effect) (end : SaveEnd) (given : LastGiven) → given_by effect end given.file ≡ (given_after_effect effect end given).file
effect_file (does.Save saving) ended.Saved given = refl
effect_file (does.Save saving) ended.SavedAnew given = refl
effect_file (does.Save saving) ended.Unsynced given = refl
effect_file (does.Save saving) ended.ChangedOnDisk given = refl
effect_file (does.Save saving) ended.Exists given = refl
effect_file (does.Save saving) (ended.Failed trouble) given = refl
effect_file other end given = refl

turns_file : (given : LastGiven) (turns : List DiskTurn) → given_after given.file (map turn_of turns) ≡ (given_after_turns given turns).file
turns_file given [] = refl
turns_file given (this ∷ later) =
    ap (λ (f : Option GivenFile). given_after f (map turn_of later)) (effect_file this.turn.moment.effect this.turn.end given)
    ∙ turns_file (given_after_effect this.turn.moment.effect this.turn.end given) later

-- ---- the text

exact_same : (copy : Copy) (old new : State) (changed now : Bool) → new.document.text ≡ old.document.text → now ≡ changed → IsExact copy old changed → IsExact copy new now
exact_same None old new changed now text mark exact = tt
exact_same (Some copy) old new changed now text mark exact =
    subst (λ (t : List Symbol). (now ≡ false) ↔ (lines t ≡ lines_of copy.items)) (sym text)
    (subst (λ (m : Bool). (m ≡ false) ↔ (lines old.document.text ≡ lines_of copy.items)) (sym mark) exact)

shown_honest : (old new : Editor) → IsOnlyShown old new → IsHonest old.draft new.draft
shown_honest old new shown =
    let text : new.draft.area.document.text ≡ old.draft.area.document.text = ap (λ d. d.text) shown.area.document in
    let mark : new.draft.is_changed ≡ old.draft.is_changed = ap (λ d. d.is_changed) shown.draft in
    let copy : new.draft.saved ≡ old.draft.saved = ap (λ d. d.saved) shown.draft in
    record {
      kept = copy;
      exact = λ e. subst (λ (c : Copy). IsExact c new.draft.area new.draft.is_changed) (sym copy)
          (exact_same old.draft.saved old.draft.area new.draft.area old.draft.is_changed new.draft.is_changed text mark e);
      alone = λ none is. (sym mark ∙ is, text);
    }

acts_stand : (folder : Folder) (given : LastGiven) (old new : Running) (acts : List Act) → AreActs folder old acts new → Stands given.file old.editor → Stands (given_after_acts given acts).file new.editor
acts_stand folder given old new [] same stands = subst (λ (p : Running). Stands given.file p.editor) (sym same) stands
acts_stand folder given old new (reads bytes milliseconds turns ∷ acts) (between, of, is, decoder, later) stands =
    acts_stand folder (given_after_turns given turns) between new acts later
    (subst (λ (f : Option GivenFile). Stands f between.editor) (turns_file given turns) (turns_stand given.file old.editor between.editor (map turn_of turns) is.editor stands))
acts_stand folder given old new (takes turn ∷ acts) (between, is, decoder, later) stands =
    acts_stand folder (given_after_turns given (turn ∷ [])) between new acts later
    (subst (λ (f : Option GivenFile). Stands f between.editor) (turns_file given (turn ∷ [])) (turns_stand given.file old.editor between.editor (map turn_of (turn ∷ [])) is.editor stands))
acts_stand folder given old new (shows editor ∷ acts) (shown, later) stands =
    acts_stand folder given (record { editor = editor; decoder = old.decoder; disk = old.disk }) new acts later
    (led given.file old.editor editor (shown_honest old.editor editor shown) shown.end stands)
acts_stand folder given old new (writes disk ∷ acts) (keeps, later) stands =
    acts_stand folder given (record { editor = old.editor; decoder = old.decoder; disk = disk }) new acts later stands

pub unchanged_after_acts : (folder : Folder) (first last : Running) (acts : List Act) (given : LastGiven) (file : GivenFile) → Begins folder given first → AreActs folder first acts last
    → (given_after_acts given acts).file ≡ Some file → last.editor.draft.is_changed ≡ false → IsWritten last.editor.draft.area last.editor.line_end file.text
unchanged_after_acts folder first last acts given file begins are is unchanged =
    unchanged_stands file last.editor
    (subst (λ (f : Option GivenFile). Stands f last.editor) is (acts_stand folder given first last acts are (stands_first given.file first.editor begins.text))) unchanged

-- ---- the disk

-- the law of textarea_disk that is cited for it
abbrev pub Lasting : Type 0
Lasting = (plan : SavePlan) (save : Save) (disk : Disk) → CanBegin plan save disk → LeavesOnly (after save (steps_of plan) disk) save.file (Some (saved save))

kept_sure : (is_sure : Bool) (folder : Folder) (old new : Disk) (given : Option GivenFile) → KeepsFiles folder old new → IsSureIf is_sure folder old given → IsSureIf is_sure folder new given
kept_sure false folder old new given keeps sure = tt
kept_sure true folder old new None keeps sure = tt
kept_sure true folder old new (Some file) keeps sure =
    λ is. record { each = λ left l. (sure is).each left ((keeps (folder.target file.name) is).each left l) }

made_sure : Lasting → (folder : Folder) (saving : SaveRequest) (old new : Disk) → IsSavedOnDisk folder saving old new → IsSureOf folder new (file_of saving)
made_sure lasting folder saving old new is = λ of_file. record {
  each = λ left l.
      let moved = subst (λ (name : List ℕ). MayLeave (after is.save (steps_of is.plan) old) name left) (sym is.asked.file) (subst (λ (d : Disk). MayLeave d (folder.target (file_of saving).name) left) is.made l) in
      subst (HasBytes (text_of_saving saving)) (sym ((lasting is.plan is.save old is.begins).each left moved)) is.asked.text;
}

effect_sure : Lasting → (folder : Folder) (effect : Effect) (end : SaveEnd) (given : LastGiven) (old new : Disk) → IsDiskAfter folder effect end old new → IsSureIf given.is_sure folder old given.file
    → IsSureIf (given_after_effect effect end given).is_sure folder new (given_after_effect effect end given).file
effect_sure lasting folder (does.Save saving) ended.Saved given old new is sure = made_sure lasting folder saving old new is
effect_sure lasting folder (does.Save saving) ended.SavedAnew given old new is sure = made_sure lasting folder saving old new is
effect_sure lasting folder (does.Save saving) ended.Unsynced given old new is sure = tt
effect_sure lasting folder (does.Save saving) ended.ChangedOnDisk given old new is sure = kept_sure given.is_sure folder old new given.file is sure
effect_sure lasting folder (does.Save saving) ended.Exists given old new is sure = kept_sure given.is_sure folder old new given.file is sure
effect_sure lasting folder (does.Save saving) (ended.Failed trouble) given old new is sure = tt
effect_sure lasting folder other end given old new is sure = kept_sure given.is_sure folder old new given.file is sure

turns_sure : Lasting → (folder : Folder) (given : LastGiven) (old new : Disk) (turns : List DiskTurn) → AreDisks folder old turns new → IsSureIf given.is_sure folder old given.file
    → IsSureIf (given_after_turns given turns).is_sure folder new (given_after_turns given turns).file
turns_sure lasting folder given old new [] same sure = subst (λ (d : Disk). IsSureIf given.is_sure folder d given.file) (sym same) sure
turns_sure lasting folder given old new (this ∷ later) (first, rest) sure =
    turns_sure lasting folder (given_after_effect this.turn.moment.effect this.turn.end given) this.disk new later rest
    (effect_sure lasting folder this.turn.moment.effect this.turn.end given old this.disk first sure)

acts_sure : Lasting → (folder : Folder) (given : LastGiven) (old new : Running) (acts : List Act) → AreActs folder old acts new → IsSureIf given.is_sure folder old.disk given.file
    → IsSureIf (given_after_acts given acts).is_sure folder new.disk (given_after_acts given acts).file
acts_sure lasting folder given old new [] same sure = subst (λ (p : Running). IsSureIf given.is_sure folder p.disk given.file) (sym same) sure
acts_sure lasting folder given old new (reads bytes milliseconds turns ∷ acts) (between, of, is, decoder, later) sure =
    acts_sure lasting folder (given_after_turns given turns) between new acts later (turns_sure lasting folder given old.disk between.disk turns is.disk sure)
acts_sure lasting folder given old new (takes turn ∷ acts) (between, is, decoder, later) sure =
    acts_sure lasting folder (given_after_turns given (turn ∷ [])) between new acts later (turns_sure lasting folder given old.disk between.disk (turn ∷ []) is.disk sure)
acts_sure lasting folder given old new (shows editor ∷ acts) (shown, later) sure =
    acts_sure lasting folder given (record { editor = editor; decoder = old.decoder; disk = old.disk }) new acts later sure
acts_sure lasting folder given old new (writes disk ∷ acts) (keeps, later) sure =
    acts_sure lasting folder given (record { editor = old.editor; decoder = old.decoder; disk = disk }) new acts later
    (kept_sure given.is_sure folder old.disk disk given.file keeps sure)

pub sure_after_acts : Lasting → (folder : Folder) (first last : Running) (acts : List Act) (given : LastGiven) (file : GivenFile) → Begins folder given first → AreActs folder first acts last
    → given_after_acts given acts ≡ record { file = Some file; is_sure = true } → IsSureOf folder last.disk file
sure_after_acts lasting folder first last acts given file begins are is =
    subst (λ (g : LastGiven). IsSureIf g.is_sure folder last.disk g.file) is (acts_sure lasting folder given first last acts are begins.disk)

-- ---- the next save

abbrev pub BesideLaw : Type 0
BesideLaw = (save : Save) (disk : Disk) → CanBegin Beside save disk → AtEachPoint (LeavesOldOrNew save disk) save (steps_of Beside) disk

abbrev pub InPlaceLaw : Type 0
InPlaceLaw = (save : Save) (disk : Disk) → CanBegin InPlace save disk → AtEachPoint (LeavesWholeText save disk) save (steps_of InPlace) disk

points : (P Q : Disk → Type 0) → ((disk : Disk) → P disk → Q disk) → (save : Save) (steps : List DiskStep) (disk : Disk) → AtEachPoint P save steps disk → AtEachPoint Q save steps disk
points P Q h save [] disk at = h disk at
points P Q h save (step ∷ steps) disk (first, later) = (h disk first, points P Q h save steps (after_step save step disk) later)

-- the disk before the save leaves the old text
abbrev LeavesText : List ℕ → Save → Disk → Type 0
LeavesText old save disk = Leaves disk save.file (HasBytes old)

left_either : (old : List ℕ) (save : Save) (disk : Disk) → LeavesText old save disk → (left : Option Content) → (MayLeave disk save.file left ⊎ (left ≡ Some (saved save))) → IsEither old save.text left
left_either old save disk leaves left (inl may) = record { either = inl (leaves.each left may) }
left_either old save disk leaves left (inr is) = record { either = inr (subst (HasBytes save.text) (sym is) refl) }

beside_one : (old : List ℕ) (save : Save) (before disk : Disk) → LeavesText old save before → LeavesOldOrNew save before disk → LeavesOne save old disk
beside_one old save before disk leaves is = inl (record { each = λ left l. left_either old save before leaves left (is.each left l) })

in_place_one : (old : List ℕ) (save : Save) (before disk : Disk) → LeavesText old save before → LeavesWholeText save before disk → LeavesOne save old disk
in_place_one old save before disk leaves (inl is) = inl (record { each = λ left l. left_either old save before leaves left (inl (is.each left l)) })
in_place_one old save before disk leaves (inr (inl is)) = inl (record { each = λ left l. left_either old save before leaves left (inr (is.each left l)) })
in_place_one old save before disk leaves (inr (inr is)) = inr is

one_at_each : BesideLaw → InPlaceLaw → (plan : SavePlan) (old : List ℕ) (save : Save) (disk : Disk) → LeavesText old save disk → CanBegin plan save disk → AtEachPoint (LeavesOne save old) save (steps_of plan) disk
one_at_each beside in_place Beside old save disk leaves begins =
    points (LeavesOldOrNew save disk) (LeavesOne save old) (λ d is. beside_one old save disk d leaves is) save (steps_of Beside) disk (beside save disk begins)
one_at_each beside in_place InPlace old save disk leaves begins =
    points (LeavesWholeText save disk) (LeavesOne save old) (λ d is. in_place_one old save disk d leaves is) save (steps_of InPlace) disk (in_place save disk begins)

pub crash_after_acts : Lasting → BesideLaw → InPlaceLaw → (folder : Folder) (first last : Running) (acts : List Act) (given : LastGiven) (file : GivenFile) (save : Save) (plan : SavePlan)
    → Begins folder given first → AreActs folder first acts last → given_after_acts given acts ≡ record { file = Some file; is_sure = true }
    → folder.is_file save.file ≡ true → folder.target file.name ≡ save.file → CanBegin plan save last.disk → AtEachPoint (LeavesOne save file.text) save (steps_of plan) last.disk
crash_after_acts lasting beside in_place folder first last acts given file save plan begins are is of_file same can =
    let sure = sure_after_acts lasting folder first last acts given file begins are is in
    let leaves = sure (subst (λ (name : List ℕ). folder.is_file name ≡ true) (sym same) of_file) in
    one_at_each beside in_place plan file.text save last.disk (subst (λ (name : List ℕ). Leaves last.disk name (HasBytes file.text)) same leaves) can
