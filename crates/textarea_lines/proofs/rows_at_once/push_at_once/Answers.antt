use Rattle.std.proofs.Common.{List, ◌-◌, ap, arith, drop, subst, sym, take, ◌∙◌, ℕ}
use Rattle.std.proofs.lemmas.List.{drop-map, take-map}
use Rattle.textarea_text.specs.Text.{characters_of, lines_of}
use Rattle.textarea_wrap.specs.RowsView.{RowsView}
use Rattle.textarea_blocks.specs.Blocks.{all_rows}
use Rattle.textarea_blocks.proofs.InBlocks.{block_pushed}
use Rattle.textarea_lines.specs.RowsAtOnce.{AreRowsAtOnce, HasOldRows, HaveOldRows}
use Rattle.textarea_lines.proofs.ComingLines.{zip-segment}
use Rattle.textarea_lines.proofs.RowsOnce.{rows-further, whole}
use Rattle.textarea_lines.proofs.rows_at_once.push_at_once.Goals as goal

pub rows_at_once-requires-clause-rows : goal.rows_at_once-requires-clause-rows
rows_at_once-requires-clause-rows c =
    let from = c.wraps.from in
    let size = c.min-to.result - from in
    subst (λ (l : List (List ℕ)). HaveOldRows c.args.old.now (take size (drop from c.args.origins.now)) l)
    (ap (take size) (drop-map characters_of from c.args.lines.now) ∙ take-map characters_of size (drop from c.args.lines.now))
    (zip-segment (HasOldRows c.args.old.now) from size c.args.origins.now (lines_of c.args.lines.now) c.requires.rows)

pub wraps-preserved : goal.wraps-preserved
wraps-preserved c =
    let items = c.args.lines.now in
    let from = c.wraps.from in
    let to = c.min-to.result in
    let rows = all_rows c.wraps.blocks.blocks in
    let next = c.in_ok-rows.rows.items in
    let segment = sym (ap (take (to - from)) (drop-map characters_of from items) ∙ take-map characters_of (to - from) (drop from items)) in (
      omega (arith, c.min-to.ensures),
      subst (λ (t : List RowsView). AreRowsAtOnce c.args.old.now c.args.count.now (take to (lines_of items)) (take to c.args.origins.now) t c.rows_at_once.new.count)
          (sym (ap all_rows c.in_ok-push.ensures ∙ block_pushed c.wraps.blocks.blocks next))
          (rows-further c.args.old.now c.args.count.now c.wraps.count c.rows_at_once.new.count from to (lines_of items) c.args.origins.now rows next
          (omega (arith, c.min-to.ensures, c.wraps-test.true)) c.wraps.invariant.1
          (subst (λ (l : List (List ℕ)). AreRowsAtOnce c.args.old.now c.wraps.count l (take (to - from) (drop from c.args.origins.now)) next c.rows_at_once.new.count) segment c.in_ok-rows.ensures)),
    )

pub returns : goal.returns
returns c =
    whole c.args.old.now c.args.count.now c.wraps.count c.wraps.from c.args.lines.now c.args.origins.now (all_rows c.wraps.blocks.blocks) c.requires.long c.wraps-test.false c.wraps.invariant.1
