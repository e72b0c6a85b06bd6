use Rattle.std.proofs.lemmas.Grind.{common_steps}
use Rattle.std.proofs.Common.{◌≡◌, ◌+◌, ◌-◌, ◌<◌, ◌≤◌, ◌∙◌, inl, inr, [], ap, arith, drop, get_or, length, sym, take}
use Rattle.std.proofs.lemmas.Bool.{cases_lt}
use Rattle.textarea_blocks.specs.Prelude.{BlocksView, all_rows, rows_of_each, row_total, size_total}
use Rattle.textarea_blocks.proofs.InBlocks.{before_all, before_more, block_count, lines_sum, rows_are, rows_sum, total_further}
use Rattle.textarea_blocks.proofs.Numbers.{row_total-take_drop, row_total-take_le}
use Rattle.textarea_blocks.proofs.LineSums.{IsSum, Sum, size_total-append}
use Rattle.textarea_blocks.proofs.blocks.RowBlocks.sums_of.Goals as goal
use Rattle.textarea_blocks.proofs.blocks.RowBlocks.sums_of.Goals.{After-count_rows-rows}

here_is : (c : After-count_rows-rows) → c.as_slice-here.result.now ≡ get_or (rows_of_each c.self.inside.blocks.items) c.walking.block []
here_is c = grind (arith, common_steps, rows_are)

-- the total of the lines, with those of one block more
further :
    (c : After-count_rows-rows) (total : Sum) → IsSum total
    → total (take (c.args.count - (c.walking.left - c.min-portion.result)) (drop c.args.line (all_rows (rows_of_each c.self.inside.blocks.items))))
    ≡ total (take (c.args.count - c.walking.left) (drop c.args.line (all_rows (rows_of_each c.self.inside.blocks.items))))
    + total (take (c.walking.index + c.min-portion.result - c.walking.index) (drop c.walking.index c.as_slice-here.result.now))
further c total sum =
    let items = c.self.inside.blocks.items in
    let blocks = rows_of_each items in
    let done = c.args.count - c.walking.left in
    let size : done + c.min-portion.result ≡ c.args.count - (c.walking.left - c.min-portion.result) = omega (arith, c.min-portion.ensures, c.walking.invariant.0) in
    ap (λ n. total (take n (drop c.args.line (all_rows blocks)))) (sym size)
    ∙ total_further total sum blocks c.as_slice-here.result.now c.walking.block c.walking.index c.min-portion.result c.args.line done
    (omega (arith, c.walking.invariant.3 c.walking-test.true, block_count items))
    (here_is c)
    (omega (arith, c.min-portion.ensures, c.walking.invariant.4 c.walking-test.true, ap length (here_is c)))
    (omega (arith, c.walking.invariant.5 c.walking-test.true, c.walking.invariant.0))

counted :
    (c : After-count_rows-rows)
    → (c.walking.rows + c.count_rows-rows.result ≡ row_total (take (c.args.count - (c.walking.left - c.min-portion.result)) (drop c.args.line (all_rows (rows_of_each c.self.inside.blocks.items)))))
    × (c.walking.rows + c.count_rows-rows.result ≤ row_total (all_rows (rows_of_each c.self.inside.blocks.items)))
counted c =
    let rows = all_rows (rows_of_each c.self.inside.blocks.items) in
    let below = drop c.args.line rows in
    let most = row_total-take_le (c.args.count - (c.walking.left - c.min-portion.result)) below in
    let sum = further c row_total rows_sum in
    let whole = row_total-take_drop c.args.line rows in (
      omega (arith, c.walking.invariant.1, c.count_rows-rows.ensures, sum, most, whole, c.self.invariant.few_rows),
      omega (arith, c.walking.invariant.1, c.count_rows-rows.ensures, sum, most, whole),
    )

pub overflow_add-rows : goal.overflow_add-rows
overflow_add-rows c = omega (arith, (counted c).1, c.self.invariant.few_rows)

pub walking-preserved : goal.walking-preserved
walking-preserved c =
    let known = (goal.at.walking-preserved c).After-count_rows-rows in
    let items = c.self.inside.blocks.items in
    let blocks = rows_of_each items in
    let block = c.walking.block in
    let within : block < length blocks = omega (arith, c.walking.invariant.3 c.walking-test.true, block_count items) in
    let next = before_more length lines_sum blocks block within in
    let all : c.args.line + c.args.count ≤ length (all_rows blocks) = omega (arith, c.requires, ap (λ (v : BlocksView). length (all_rows v.blocks)) c.self.view_is) in
    let at = c.walking.invariant.5 c.walking-test.true in
    let inside = c.walking.invariant.4 c.walking-test.true in
    let here = ap length (here_is known) in (
      omega (arith, c.walking.invariant.0),
      (counted known).0,
      omega (arith, c.walking.invariant.2, c.size_of_rows.ensures, c.saturating_add-size.ensures, further known size_total size_total-append),
      λ more. elim (cases_lt (block + 1) (length items)) [
        | inl less ↦ less
        | inr most ↦
            absurd (omega (arith, more, next, at, inside, here, all, c.min-portion.ensures, before_all length blocks (block + 1) (omega (arith, most, block_count items))))
      ],
      λ more. omega arith,
      λ more. omega (arith, more, next, at, inside, here, c.min-portion.ensures),
    )
