use Rattle.std.proofs.Common.{take, ◌↔◌, IsTrue}
use Rattle.textarea_wrap.specs.Prelude.{AllByRecursion, IsVisible}
use Rattle.textarea_wrap.proofs.wrap.columns.are_visible.Given as goal

abbrev pub invariant-loop-byte : goal.invariant-loop-byte
invariant-loop-byte l = IsTrue l.all ↔ AllByRecursion IsVisible (take l.byte-index l.bytes)
