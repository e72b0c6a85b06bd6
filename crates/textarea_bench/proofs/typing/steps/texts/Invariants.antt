use Rattle.std.proofs.Common.{◌≡◌, vec_len}
use Rattle.textarea_bench.proofs.typing.steps.texts.Given as goal

-- the lines so far
abbrev pub invariant-loop-text : goal.invariant-loop-text
invariant-loop-text l = vec_len l.lines ≡ l.text-index
