use Rattle.std.proofs.Common.{◌≡◌, ◌+◌, List, drop, map, refl, subst, sym}
use Rattle.textarea_c_data.specs.Copied.{copied_over, written_at}
use Rattle.textarea_c_data.specs.Ranges.{plain_range}
use Rattle.textarea_c_data.specs.declared.range.CRange.{CRange}
use Rattle.textarea_c_data.proofs.Copied.{item_out}
use Rattle.textarea_c_data.proofs.range.write_ranges.Goals as goal

pub loop-index-preserved : goal.loop-index-preserved
loop-index-preserved c =
    let all = c.args.ranges.now in let at = c.loop-index.index in
    subst (λ (out : List CRange). written_at (at + 1) out (map plain_range (drop (at + 1) all)) ≡ copied_over c.args.out.now (map plain_range all)) (sym c.put.ensures.out)
    (item_out plain_range all at (at + 1) _ c.loop-index.out _ c.of.result c.loop-index-test.true refl c.of.ensures c.loop-index.invariant)
