use Rattle.std.proofs.Common.{◌-◌, ◌∙◌, ap, arith, drop, length, take}
use Rattle.textarea_disk.proofs.TextChanges.{changed_so, is_new, ok_so}
use Rattle.textarea_disk.proofs.text_change.change_between.Goals as goal
use Rattle.textarea_disk.specs.TextChange.{with_change}

pub returns : goal.returns
returns c =
    let old = c.args.old.now in
    let new = c.args.new.now in
    let first = c.common_start-first.result in
    let last = c.common_end-last.result in
    let middle = take (length new - last - first) (drop first new) in
    ok_so c.payload_of.result
    (λ made is.
    ap (with_change old) is
    ∙ changed_so first last middle old (omega (arith, c.common_start-first.type_inv)) (omega (arith, c.common_end-last.type_inv))
    ∙ is_new old new first last c.common_start-first.ensures.within_new c.common_end-last.ensures.within_new c.common_start-first.ensures.same c.common_end-last.ensures.same)
    c.payload_of.ensures
