use Rattle.std.proofs.Common.{map, take}
use Rattle.textarea_modal.specs.Calls.{key_call}
use Rattle.textarea_modal.specs.Runs.{AllMade}
use Rattle.textarea_modal.proofs.modal.calls.make_all.Given as goal

abbrev pub invariant-loop-call : goal.invariant-loop-call
invariant-loop-call l =
    AllMade l.initial.area (take l.call-index (map key_call l.calls)) l.area
