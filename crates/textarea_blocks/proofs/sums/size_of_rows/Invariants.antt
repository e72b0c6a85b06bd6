use Rattle.std.proofs.Common.{◌≡◌, ◌-◌, ◌^◌, take, min}
use Rattle.textarea_blocks.specs.Sums.{size_total}
use Rattle.textarea_blocks.proofs.sums.size_of_rows.Given as goal

abbrev pub invariant-loop-line : goal.invariant-loop-line
invariant-loop-line l = l.size ≡ min (size_total (take l.line-index l.rows)) (2 ^ 64 - 1)
