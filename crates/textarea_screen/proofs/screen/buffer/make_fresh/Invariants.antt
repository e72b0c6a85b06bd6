use Rattle.std.proofs.Common.{◌≡◌, take, vec_len}
use Rattle.textarea_screen.proofs.FreshLemmas.{AreFresh}
use Rattle.textarea_screen.proofs.screen.buffer.make_fresh.Given as goal

abbrev pub invariant-loop-index : goal.invariant-loop-index
invariant-loop-index l = (vec_len l.cells ≡ vec_len l.initial.cells) × AreFresh (take l.index l.cells.items)
