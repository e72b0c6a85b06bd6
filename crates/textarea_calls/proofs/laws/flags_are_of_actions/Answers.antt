use Rattle.std.proofs.Common.{rules}
use Rattle.textarea_calls.specs.Keys.{keys_with_shortcuts, keys_without_shortcuts}
use Rattle.textarea_calls.proofs.FlagLemmas.{flags_of_rows, characters_inserted}
use Rattle.textarea_calls.proofs.laws.flags_are_of_actions.Goals as goal

pub returns-clause-with_shortcuts : goal.returns-clause-with_shortcuts
unfolding keys_with_shortcuts
returns-clause-with_shortcuts c = flags_of_rows keys_with_shortcuts (search (rules, characters_inserted))

pub returns-clause-without_shortcuts : goal.returns-clause-without_shortcuts
unfolding keys_without_shortcuts
returns-clause-without_shortcuts c = flags_of_rows keys_without_shortcuts (search (rules, characters_inserted))
