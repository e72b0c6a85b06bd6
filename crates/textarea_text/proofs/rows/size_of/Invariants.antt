use Rattle.std.proofs.Common.{◌≡◌, ◌-◌, ◌^◌, take, min}
use Rattle.textarea_text.specs.Size.{size_of}
use Rattle.textarea_text.proofs.rows.size_of.Given as goal

-- the sum so far
abbrev pub invariant-loop-line : goal.invariant-loop-line
invariant-loop-line l = l.size ≡ min (size_of (take l.line-index l.lines)) (2 ^ 64 - 1)
