use Rattle.std.proofs.Common.{List, subst, sym, take_all}
use Rattle.std.proofs.lemmas.List.{take_more}
use Rattle.std.specs.declared.time.Duration.{Duration}
use Rattle.textarea_data.specs.declared.input.Input.{Input}
use Rattle.tui_textarea.specs.ActionTexts.{IsAfterAllTimed}
use Rattle.textarea_uses.proofs.recorder.Recorder.replay.Goals as goal

pub loop-step-preserved : goal.loop-step-preserved
loop-step-preserved c =
    subst (λ (made : List (Input × Duration)). IsAfterAllTimed c.args.area.now made c.make.new.area) (sym (take_more c.deref-step-items.result.now c.loop-step.step-index _ c.loop-step-test.true))
    (c.replays_agree.ensures.more _ _ c.args.area.now c.loop-step.area c.make.new.area c.loop-step.invariant c.in_ok-make.ensures.ok)

pub returns : goal.returns
returns c recorded h =
    let all = subst (λ (made : List (Input × Duration)). IsAfterAllTimed c.args.area.now made c.loop-step.area) (take_all c.loop-step.step-index c.deref-step-items.result.now c.loop-step-test.false) c.loop-step.invariant in
    c.replays_agree.ensures.one c.args.self.now.steps.items c.args.area.now c.loop-step.area recorded (subst (λ (made : List (Input × Duration)). IsAfterAllTimed c.args.area.now made c.loop-step.area) c.deref-step-items.ensures.value all) h
