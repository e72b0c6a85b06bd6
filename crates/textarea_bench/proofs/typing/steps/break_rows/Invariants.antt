use Rattle.std.proofs.Common.{◌≡◌, length}
use Rattle.textarea_bench.proofs.typing.steps.break_rows.Given as goal

-- the number of lines is unchanged
abbrev pub invariant-loop : goal.invariant-loop
invariant-loop l = length l.map.rows ≡ length l.initial.map.rows
