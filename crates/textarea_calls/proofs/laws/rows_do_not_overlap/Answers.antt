use Rattle.std.proofs.Common.{refl}
use Rattle.textarea_calls.specs.Keys.{keys_with_shortcuts, keys_without_shortcuts}
use Rattle.textarea_calls.proofs.TableOverlap.{no_overlap}
use Rattle.textarea_calls.proofs.laws.rows_do_not_overlap.Goals as goal

pub returns-clause-with_shortcuts : goal.returns-clause-with_shortcuts
unfolding keys_with_shortcuts
returns-clause-with_shortcuts c = no_overlap keys_with_shortcuts refl

pub returns-clause-without_shortcuts : goal.returns-clause-without_shortcuts
unfolding keys_without_shortcuts
returns-clause-without_shortcuts c = no_overlap keys_without_shortcuts refl
