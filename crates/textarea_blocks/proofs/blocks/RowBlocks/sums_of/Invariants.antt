use Rattle.std.proofs.Common.{◌≡◌, ◌+◌, ◌-◌, ◌^◌, ◌<◌, ◌≤◌, [], drop, get_or, length, min, take}
use Rattle.textarea_blocks.specs.Prelude.{all_rows, lines_before, rows_of_each, row_total, size_total}
use Rattle.textarea_blocks.proofs.blocks.RowBlocks.sums_of.Given as goal

-- the sums of the lines so far; while lines remain, the next of them is at the index in the block
abbrev pub invariant-walking : goal.invariant-walking
invariant-walking l =
    (l.left ≤ l.count)
    × (l.rows ≡ row_total (take (l.count - l.left) (drop l.line (all_rows (rows_of_each l.self-inside.blocks.items)))))
    × (l.size ≡ min (size_total (take (l.count - l.left) (drop l.line (all_rows (rows_of_each l.self-inside.blocks.items))))) (2 ^ 64 - 1))
    × (0 < l.left → l.block < length l.self-inside.blocks.items)
    × (0 < l.left → l.index ≤ length (get_or (rows_of_each l.self-inside.blocks.items) l.block []))
    × (0 < l.left → lines_before (rows_of_each l.self-inside.blocks.items) l.block + l.index + l.left ≡ l.line + l.count)

abbrev pub decreases-walking : goal.decreases-walking
decreases-walking l = length l.self-inside.blocks.items - l.block
