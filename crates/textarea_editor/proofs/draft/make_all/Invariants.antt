use Rattle.std.proofs.Common.{take}
use Rattle.textarea_editor.proofs.draft.make_all.Given as goal
use Rattle.textarea_editor.specs.Draft.{plain_calls}
use Rattle.textarea_modal.specs.Runs.{AllMade}

abbrev pub invariant-loop-call : goal.invariant-loop-call
invariant-loop-call l =
    AllMade l.initial.area (take l.call-index (plain_calls l.calls)) l.area
