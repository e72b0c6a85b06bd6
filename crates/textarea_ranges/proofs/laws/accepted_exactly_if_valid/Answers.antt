use Rattle.textarea_ranges.proofs.RejectedLemmas.{accepted_if_valid}
use Rattle.textarea_ranges.proofs.laws.accepted_exactly_if_valid.Goals as goal

pub returns : goal.returns
returns c = accepted_if_valid
