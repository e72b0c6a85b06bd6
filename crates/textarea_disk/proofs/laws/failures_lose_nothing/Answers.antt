use Rattle.textarea_disk.proofs.Saves.{beside_failures, in_place_failures}
use Rattle.textarea_disk.proofs.laws.failures_lose_nothing.Goals as goal

pub returns-clause-beside : goal.returns-clause-beside
returns-clause-beside c = beside_failures

pub returns-clause-in_place : goal.returns-clause-in_place
returns-clause-in_place c = in_place_failures
