use Rattle.textarea_ranges.proofs.LookupLemmas.{MatchOption-at_place, MatchOption-inside}
use Rattle.textarea_ranges.proofs.laws.found_exactly_if_there.Goals as goal

pub returns-clause-inside : goal.returns-clause-inside
returns-clause-inside c = MatchOption-inside

pub returns-clause-at_place : goal.returns-clause-at_place
returns-clause-at_place c = MatchOption-at_place
