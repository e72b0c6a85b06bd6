use Rattle.std.proofs.Common.{◌≡◌, ℕ, ◌+◌, ◌<◌, ◌≤◌, get_or}
use Rattle.textarea_blocks.proofs.blocks.numbers.move_slice.Given as goal

-- the numbers so far are moved, and the others are unchanged
abbrev pub invariant-loop-k : goal.invariant-loop-k
invariant-loop-k l =
    ((i : ℕ) → i < l.from → get_or l.numbers i 0 ≡ get_or l.fn.numbers i 0)
    × ((i : ℕ) → l.from ≤ i → i < l.k → get_or l.numbers i 0 + l.gone ≡ get_or l.fn.numbers i 0 + l.come)
    × ((i : ℕ) → l.k ≤ i → get_or l.numbers i 0 ≡ get_or l.fn.numbers i 0)
