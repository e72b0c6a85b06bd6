use Rattle.textarea_ranges.proofs.Moving.{covers_the_same, in_order_moved, valid_moved}
use Rattle.textarea_ranges.proofs.laws.ranges_follow_the_text.Goals as goal

pub returns-clause-covers : goal.returns-clause-covers
returns-clause-covers c = covers_the_same

pub returns-clause-valid : goal.returns-clause-valid
returns-clause-valid c = valid_moved

pub returns-clause-in_order : goal.returns-clause-in_order
returns-clause-in_order c = in_order_moved
