use Rattle.std.proofs.Common.{◌+◌, ◌∙◌, true, false, List, drop, get_or, subst, sym, take}
use Rattle.std.proofs.lemmas.List.{take-append-drop, take_more}
use Rattle.textarea_data.specs.declared.input.Input.{Input}
use Rattle.textarea_data.specs.declared.input.Key.TheVariants.{Char}
use Rattle.textarea_modal.specs.Runs.{Finishes, RunsOut}
use Rattle.textarea_modal.specs.declared.mode.Mode.{Mode}
use Rattle.textarea_modal.proofs.Ends.{finishes_at_quit, finishes_more, runs_out}
use Rattle.textarea_modal.proofs.modal.Modal.run.Goals as goal

some_input : Input
some_input = record { key = Char 0; ctrl = false; alt = false; shift = false }

pub loop-index-preserved : goal.loop-index-preserved
unfolding some_input
loop-index-preserved c =
    let inputs = c.args.inputs.now in
    let index = c.loop-index.index in
    let this = get_or inputs index some_input in
    let did = c.in-Ok-false.ensures in
    subst (λ (l : List Input). Finishes c.args.area.now c.args.self.now l c.take.new.area c.take.new.self (index + 1) false) (sym (take_more inputs index some_input c.loop-index-test.true))
    (finishes_more c.args.area.now c.loop-index.area c.take.new.area c.args.self.now c.loop-index.self c.take.new.self (take index inputs) this index false c.loop-index.invariant did.ok did.mode (sym c.in-Ok-false.field-0-test ∙ did.quits))

pub returns-in-Ok-true : goal.returns-in-Ok-true
unfolding some_input
returns-in-Ok-true c =
    let old = c.args.area.now in
    let new = c.take.new.area in
    let from = c.args.self.now in
    let to = c.take.new.self in
    let inputs = c.args.inputs.now in
    let index = c.loop-index.index in
    let this = get_or inputs index some_input in
    let did = c.in-Ok-true.ensures in
    let up_to : Finishes old from (take (index + 1) inputs) new to (index + 1) true = subst (λ (l : List Input). Finishes old from l new to (index + 1) true)
    (sym (take_more inputs index some_input c.loop-index-test.true)) (finishes_more old c.loop-index.area new from c.loop-index.self to
    (take index inputs) this index true c.loop-index.invariant did.ok did.mode (sym c.in-Ok-true.field-0-test ∙ did.quits)) in
    subst (λ (l : List Input). Finishes old from l new to (index + 1) true) (take-append-drop (index + 1) inputs)
    (finishes_at_quit old new from to (take (index + 1) inputs) (drop (index + 1) inputs) (index + 1) up_to)

pub returns-in-Err : goal.returns-in-Err
unfolding some_input
returns-in-Err c =
    let index = c.loop-index.index in
    let before = c.loop-index.self in
    subst (λ (m : Mode). RunsOut c.args.area.now c.args.self.now c.args.inputs.now c.take.new.area m index) (sym c.in-Err.ensures.stays)
    (runs_out c.args.area.now c.loop-index.area c.take.new.area c.args.self.now before c.args.inputs.now some_input index index c.loop-index-test.true c.loop-index.invariant c.in-Err.ensures.err)
