use Rattle.std.proofs.Common.{rules, ◌≡◌, ◌≤◌, [], drop, length}
use Rattle.std.proofs.lemmas.List.{drop_all}
use Rattle.textarea_disk.proofs.TextChanges.{size_at_end}
use Rattle.textarea_disk.proofs.text_change.size_of_records.Goals as goal

pub returns : goal.returns
returns c =
    let end : length c.args.payloads.now ≤ c.loop-payload.payload-index = search rules in
    let none : drop c.loop-payload.payload-index c.args.payloads.now ≡ [] = drop_all c.loop-payload.payload-index c.args.payloads.now end in
    size_at_end c.loop-payload.size _ (drop c.loop-payload.payload-index c.args.payloads.now) none c.loop-payload.invariant.0 c.loop-payload.invariant.1
