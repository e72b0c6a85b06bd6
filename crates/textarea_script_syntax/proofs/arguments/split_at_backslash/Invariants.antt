use Rattle.std.proofs.Common.{ℕ, ◌<◌, ◌≢◌, slice_index}
use Rattle.textarea_script_syntax.proofs.arguments.split_at_backslash.Given as goal

-- no byte so far is a backslash
abbrev pub invariant-loop-index : goal.invariant-loop-index
invariant-loop-index l = (k : ℕ) → k < l.index → slice_index l.fn.text k ≢ 92
