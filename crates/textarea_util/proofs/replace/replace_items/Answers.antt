use Rattle.std.proofs.Common.{◌+◌, ◌-◌, ◌++◌, ◌∙◌, ap, arith, take, drop, cond}
use Rattle.textarea_util.specs.Replaced.{replaced}
use Rattle.textarea_util.proofs.Replacing.{replaced_by_fewer, replaced_by_more}
use Rattle.textarea_util.proofs.replace.replace_items.Goals as goal

pub returns-then-shared-count-clause-items : goal.returns-then-shared-count-clause-items
returns-then-shared-count-clause-items g c =
    let start = c.args.start in
    let shared = c.min-shared.result in
    c.remove_segment-then-shared-count.ensures.items
    ∙ ap (λ t. take (start + shared) t ++ drop (start + c.args.count) t) c.swap_segments.ensures.items
    ∙ replaced_by_fewer c.args.items.now.items c.args.new.items start c.args.count shared (omega arith) (omega arith) (omega arith)

pub returns-then-not-is_empty-clause-items : goal.returns-then-not-is_empty-clause-items
returns-then-not-is_empty-clause-items g c =
    let start = c.args.start in
    let shared = c.min-shared.result in
    let below = c.len-then-not-is_empty.result - (start + shared) in
    let swapped = replaced c.args.items.now.items start shared (take shared c.args.new.items) in
    c.move_to_end.ensures.items
    ∙ ap (λ t. take (start + shared) t ++ (drop (start + shared + below) t ++ take below (drop (start + shared) t)))
    (c.append.ensures.items
    ∙ ap (λ b. cond b (c.swap_segments.new.items.items ++ c.remove_segment.new.items.items) c.swap_segments.new.items.items) (c.append.ensures.succeeds (omega arith))
    ∙ ap (λ t. t ++ c.remove_segment.new.items.items) c.swap_segments.ensures.items
    ∙ ap (λ t. swapped ++ t) (c.remove_segment.ensures.items ∙ c.swap_segments.ensures.rest))
    ∙ replaced_by_more c.args.items.now.items c.args.new.items start c.args.count shared below (omega arith) (omega arith) (omega arith) (omega arith)
