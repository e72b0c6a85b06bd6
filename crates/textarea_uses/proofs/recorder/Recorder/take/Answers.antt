use Rattle.std.proofs.Common.{◌≡◌, ◌∙◌, ◌++◌, ◌∷◌, [], List, ap, arith, cond, inl, inr, is_ok, refl, subst, sym, true}
use Rattle.std.specs.declared.time.Duration.{Duration}
use Rattle.textarea_data.specs.declared.input.Input.{Input}
use Rattle.tui_textarea.specs.ActionTexts.{IsAfterAllTimed}
use Rattle.tui_textarea.proofs.Ends.{on_err}
use Rattle.textarea_uses.specs.Recorder.{IsLeft}
use Rattle.textarea_uses.proofs.recorder.Recorder.take.Goals as goal

pub returns-clause-ok : goal.returns-clause-ok
returns-clause-ok c start so_far =
    let step : Input × Duration = (c.args.input, c.args.now) in
    let pushed : is_ok c.push.result ≡ true = c.push.ensures.succeeds (omega (arith, c.in_ok-reserve.ensures.ok)) in
    let items : c.push.new.self.items ≡ c.args.self.now.steps.items ++ step ∷ [] = c.push.ensures.items
    ∙ ap (λ b. cond b (c.reserve.new.self.items ++ step ∷ []) c.reserve.new.self.items) pushed ∙ ap (λ (before : List (Input × Duration)). before ++ step ∷ []) c.reserve.ensures.items in
    subst (λ (steps : List (Input × Duration)). IsAfterAllTimed start steps c.make.new.area) (sym items)
    (c.replays_agree.ensures.more c.args.self.now.steps.items step start c.args.area.now c.make.new.area so_far c.in_ok-make.ensures.ok)

pub returns-in_err-reserve-clause-err : goal.returns-in_err-reserve-clause-err
returns-in_err-reserve-clause-err c = on_err _ (IsLeft c.args.area.now (c.args.input, c.args.now) c.args.area.now) (inl refl)

pub returns-in_err-make-clause-err : goal.returns-in_err-make-clause-err
returns-in_err-make-clause-err c = on_err _ (IsLeft c.args.area.now (c.args.input, c.args.now) c.make.new.area) (inr c.in_err-make.ensures.err)
