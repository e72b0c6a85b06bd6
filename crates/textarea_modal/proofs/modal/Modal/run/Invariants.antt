use Rattle.std.proofs.Common.{take, false}
use Rattle.textarea_modal.specs.Runs.{Finishes}
use Rattle.textarea_modal.proofs.modal.Modal.run.Given as goal

abbrev pub invariant-loop-index : goal.invariant-loop-index
invariant-loop-index l =
    Finishes l.initial.area l.initial.self (take l.index l.inputs) l.area l.self l.index false
