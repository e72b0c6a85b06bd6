-- Steps that are made one after another, up to the first that fails.
use Rattle.std.specs.Prelude.{◌≡◌, ◌⊎◌, Bool, true, false, List, [], ◌∷◌, Result, Ok, Err, is_ok}
use Rattle.textarea_disk.specs.JournalSteps.{removing_steps}
use Rattle.textarea_disk.specs.declared.journal_step.JournalStep.{JournalStep}
use Rattle.textarea_files.specs.declared.disk.made_steps.FailedStep.{FailedStep}

-- all steps were made, or this one failed
abbrev pub IsFailure : {S U : Type 0} → Result U (FailedStep S) → S → Type 0
IsFailure (Ok _) step = ⊥
IsFailure (Err failed) step = failed.step ≡ step

abbrev pub AreDone : {S U : Type 0} → Result U (FailedStep S) → Type 0
AreDone (Ok _) = Unit {0}
AreDone (Err failed) = ⊥

-- The steps were made in order: each one leads from a value to the next, up to the first that fails, after which none is made.
abbrev pub AreMade : {M S U : Type 0} → (M → S → Bool → M → Type 0) → M → List S → Result U (FailedStep S) → M → Type 0
AreMade leads old [] result new = AreDone result × (new ≡ old)
AreMade leads old (step ∷ steps) result new =
    ((next : _) × leads old step true next × AreMade leads next steps result new)
    ⊎ (IsFailure result step × leads old step false new)

-- the same, where only whether all were made is told
pub record AreMadeUpTo {M S V E : Type 0} (leads : M → S → Bool → M → Type 0) (old : M) (steps : List S) (result : Result V E) (new : M) : Type 0 where
  pub outcome : Result (Unit {0}) (FailedStep S)
  pub made : AreMade leads old steps outcome new
  pub told : is_ok result ≡ is_ok outcome

-- the steps of a journal's removal were made, up to the first that fails
pub record IsRemoved {M : Type 0} (leads : M → JournalStep → Bool → M → Type 0) (old new : M) : Type 0 where
  pub outcome : Result (Unit {0}) (FailedStep JournalStep)
  pub made : AreMade leads old removing_steps outcome new
