use Rattle.std.proofs.Common.{◌≡◌, ◌+◌, ◌-◌, ◌≤◌, List, ap, arith, drop, min, refl, take, ℕ, Result, Ok, Err}
use Rattle.std.specs.Result.{IsErr, IsOk}
use Rattle.textarea_util.specs.Replaced.{replaced}
use Rattle.textarea_wrap.specs.RowsView.{RowsView}
use Rattle.textarea_blocks.specs.Sums.{row_total, size_total}
use Rattle.textarea_screen_map.specs.Map.{MapView}
use Rattle.textarea_screen_map.specs.Prepared.{rows_in}
use Rattle.textarea_blocks.proofs.InBlocks.{rows_sum}
use Rattle.textarea_blocks.proofs.LineSums.{exchange, size_total-append}
use Rattle.textarea_screen_map.proofs.screen_map.ScreenMap.within_limit_with.Goals as goal
use Rattle.textarea_screen_map.proofs.screen_map.ScreenMap.within_limit_with.Goals.{After-sums_of-new}

not_both : {T E : Type 0} (r : Result T E) → IsErr r → IsOk r → ⊥
not_both (Ok v) err ok = absurd cc
not_both (Err e) err ok = absurd cc

-- the number of rows and the size of lines after the replacement
record Sums (rows new : List RowsView) (row count gone gone_size total size come come_size : ℕ) : Type 0 where
  gone_is : gone ≤ total
  few : total ≤ 281474976710656
  total_is : total - gone + row_total new ≡ row_total (replaced rows row count new)
  come_is : come ≡ min (row_total new) 18446744073709551615
  gone_size_is : gone_size ≤ size
  small : size ≤ 281474976710656
  size_is : size - gone_size + size_total new ≡ size_total (replaced rows row count new)
  come_size_is : come_size ≡ min (size_total new) 18446744073709551615

sums : (c : After-sums_of-new) → Sums c.args.self.now.rows (rows_in c.args.rows.now) c.args.row c.args.count c.sums_of-old.result.0 c.sums_of-old.result.1 c.self.inside.total c.self.inside.size c.sums_of-new.result.0 c.sums_of-new.result.1
sums c =
    let rows = c.args.self.now.rows in
    let new = rows_in c.args.rows.now in
    let row = c.args.row in
    let count = c.args.count in
    let visual = exchange row_total rows (take count (drop row rows)) new row count rows_sum refl in
    let sizes = exchange size_total rows (take count (drop row rows)) new row count size_total-append refl in
    let gone = ap (λ (v : MapView). row_total (take count (drop row v.rows))) c.self.view_is in
    let gone_size = ap (λ (v : MapView). size_total (take count (drop row v.rows))) c.self.view_is in
    let total = ap (λ (v : MapView). row_total v.rows) c.self.view_is in
    let size = ap (λ (v : MapView). size_total v.rows) c.self.view_is in
    record {
      gone_is = omega (arith, c.sums_of-old.ensures.rows, visual.segment, gone, total, c.self.invariant.all);
      few = omega (arith, c.self.invariant.all, c.self.invariant.limit.few);
      total_is = omega (arith, c.sums_of-old.ensures.rows, visual.after, gone, total, c.self.invariant.all);
      come_is = c.sums_of-new.ensures.rows;
      gone_size_is = omega (arith, c.sums_of-old.ensures.size, sizes.segment, gone_size, size, c.self.invariant.size_is);
      small = omega (arith, c.self.invariant.size_is, c.self.invariant.limit.size);
      size_is = omega (arith, c.sums_of-old.ensures.size, sizes.segment, sizes.after, gone_size, size, c.self.invariant.size_is, c.self.invariant.limit.size);
      come_size_is = c.sums_of-new.ensures.size;
    }

pub overflow_sub-size_left : goal.overflow_sub-size_left
overflow_sub-size_left c = (sums (goal.at.overflow_sub-size_left c).After-sums_of-new).gone_size_is

pub returns-in_err-size-clause-limit : goal.returns-in_err-size-clause-limit
returns-in_err-size-clause-limit c =
    let known = sums (goal.at.returns-in_err-size-clause-limit c).After-sums_of-new in (
      λ yes. absurd (not_both c.from_residual.result c.from_residual.ensures.0 yes),
      λ within. absurd (cc (c.in_err-size.ensures.limit.1 (omega (arith, within.size, known.size_is, known.gone_size_is, known.come_size_is, known.small, c.saturating_add-size_after.ensures)))),
    )

pub overflow_sub-rows_left : goal.overflow_sub-rows_left
overflow_sub-rows_left c = (sums (goal.at.overflow_sub-rows_left c).After-sums_of-new).gone_is

pub returns-in_err-total-clause-limit : goal.returns-in_err-total-clause-limit
returns-in_err-total-clause-limit c =
    let known = sums (goal.at.returns-in_err-total-clause-limit c).After-sums_of-new in (
      λ yes. absurd (not_both c.from_residual-in_err-total.result c.from_residual-in_err-total.ensures.0 yes),
      λ within. absurd (cc (c.in_err-total.ensures.limit.1 (omega (arith, within.few, known.total_is, known.gone_is, known.come_is, known.few, c.saturating_add-rows_after.ensures)))),
    )

pub returns-clause-limit : goal.returns-clause-limit
returns-clause-limit c =
    let known = sums (goal.at.returns-clause-limit c).After-sums_of-new in (
      λ yes. record {
        size = omega (arith, c.in_ok-size.ensures.limit.0 yes, known.size_is, known.gone_size_is, known.come_size_is, known.small, c.saturating_add-size_after.ensures);
        few = omega (arith, c.in_ok-total.ensures.limit.0 yes, known.total_is, known.gone_is, known.come_is, known.few, c.saturating_add-rows_after.ensures);
      },
      λ within. refl,
    )

pub returns-clause-total : goal.returns-clause-total
returns-clause-total c =
    let known = sums (goal.at.returns-clause-total c).After-sums_of-new in
    omega (arith, c.in_ok-total.ensures.size, c.in_ok-total.ensures.limit.0 refl, known.total_is, known.gone_is, known.come_is, c.saturating_add-rows_after.ensures)

pub returns-clause-size : goal.returns-clause-size
returns-clause-size c =
    let known = sums (goal.at.returns-clause-size c).After-sums_of-new in
    omega (arith, c.in_ok-size.ensures.size, c.in_ok-size.ensures.limit.0 refl, known.size_is, known.gone_size_is, known.come_size_is, c.saturating_add-size_after.ensures)
