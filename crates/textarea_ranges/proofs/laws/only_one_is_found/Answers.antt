use Rattle.textarea_ranges.proofs.LookupLemmas.{at_place-only, inside-only}
use Rattle.textarea_ranges.proofs.laws.only_one_is_found.Goals as goal

pub returns-clause-inside : goal.returns-clause-inside
returns-clause-inside c = inside-only

pub returns-clause-at_place : goal.returns-clause-at_place
returns-clause-at_place c = at_place-only
