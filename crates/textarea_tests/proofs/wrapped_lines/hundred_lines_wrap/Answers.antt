use Rattle.std.proofs.Common.{refl}
use Rattle.textarea_tests.proofs.WrappedLines.{hundred_holds}
use Rattle.textarea_tests.proofs.wrapped_lines.hundred_lines_wrap.Goals as goal

pub returns-clause-typed : goal.returns-clause-typed
returns-clause-typed c = hundred_holds _ (λ drawing. refl)

pub returns-clause-inserted : goal.returns-clause-inserted
returns-clause-inserted c = hundred_holds _ (λ drawing. refl)

pub returns-clause-undone : goal.returns-clause-undone
returns-clause-undone c = hundred_holds _ (λ drawing. refl)

pub returns-clause-redone : goal.returns-clause-redone
returns-clause-redone c = hundred_holds _ (λ drawing. refl)
