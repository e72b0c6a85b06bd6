use Rattle.textarea_ranges.proofs.OrderLemmas.{AreInOrder-in_order, IsInOrder-in_order, in_order-IsInOrder}
use Rattle.textarea_ranges.proofs.laws.one_order.Goals as goal

pub returns-clause-in_order : goal.returns-clause-in_order
returns-clause-in_order c = IsInOrder-in_order

pub returns-clause-only : goal.returns-clause-only
returns-clause-only c = in_order-IsInOrder

pub returns-clause-again : goal.returns-clause-again
returns-clause-again c = AreInOrder-in_order
