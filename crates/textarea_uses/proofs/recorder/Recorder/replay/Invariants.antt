use Rattle.std.proofs.Common.{take}
use Rattle.tui_textarea.specs.ActionTexts.{IsAfterAllTimed}
use Rattle.textarea_uses.proofs.recorder.Recorder.replay.Given as goal

abbrev pub invariant-loop-step : goal.invariant-loop-step
invariant-loop-step l = IsAfterAllTimed l.initial.area (take l.step-index l.step-items) l.area
