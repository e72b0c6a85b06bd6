use Rattle.std.proofs.Common.{rules, ◌≡◌, IfOk, List, ℕ, subst}
use Rattle.textarea_disk.proofs.TextChanges.{change_made}
use Rattle.textarea_disk.proofs.text_change.with_change.Goals as goal

pub returns : goal.returns
returns c =
    subst (λ (x : List ℕ). IfOk c.put_between.result (λ made. made.items ≡ x))
    (change_made c.args.text.now c.args.payload.now c.count_in-first.result c.count_in-last.result (search rules) c.count_in-first.ensures c.count_in-last.ensures)
    c.put_between.ensures
