use Rattle.std.proofs.Common.{ℕ, rules}
use Rattle.std.proofs.lemmas.List.Sorted.{answers_always}
use Rattle.textarea_ranges.specs.Prelude.{AtomicRange, is_range_before}
use Rattle.textarea_ranges.proofs.OrderLemmas.{in_order-sorted, order_of_ranges}
use Rattle.textarea_ranges.proofs.Sorts.{later-IsSortedBy}
use Rattle.textarea_ranges.proofs.order.in_order.Goals as goal

pub returns : goal.returns
returns c =
    let key : AtomicRange → ℕ × ℕ = λ r. (r.row, r.start_col) in
    in_order-sorted c.args.ranges.items c.sort_by_key.new.self.items
    (later-IsSortedBy is_range_before order_of_ranges _ (c.in_ok-sort_by_key.ensures.sorted key (answers_always _ _ _ (λ f a r g h. search rules))))
    (c.sort_by_key.ensures.stable key (answers_always _ _ _ (λ f a r g h. search rules)))
