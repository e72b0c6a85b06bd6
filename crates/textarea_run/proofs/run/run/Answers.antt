use Rattle.std.proofs.Common.{◌≡◌, ◌+◌, ◌<◌, ◌∙◌, ℕ, Bool, List, [], Result, Ok, Err, arith, false, inl, length, refl, Some, sym, true, vec_capacity, vec_len}
use Rattle.std.specs.Result.{OnErr, is_err}
use Rattle.textarea_calls.specs.declared.answer.Answer.{Answer}
use Rattle.textarea_calls.specs.declared.call.Call.{Call}
use Rattle.textarea_screen.specs.declared.screen.buffer.Buffer.{Buffer}
use Rattle.tui_textarea.specs.Run.{NeverBegins}
use Rattle.tui_textarea.specs.State.{State}
use Rattle.textarea_run.proofs.run.run.Goals as goal

-- what holds after an error holds if there is an error
fact_of_error : {T E : Type 0} (outcome : Result T E) (P : Type 0) → is_err outcome ≡ true → OnErr outcome P → P
fact_of_error (Ok done) P is so = let no : false ≡ true = is in cc
fact_of_error (Err error) P is so = so

-- memory runs out for the results of some calls
never : {T E : Type 0} (reserve : Result T E) (old : State) (buffer : Buffer) (calls : List Call) (answers : List Answer) (room count : ℕ) (failed : Bool) → failed ≡ true
    → failed ≡ is_err reserve → OnErr reserve (room < count + length calls) → count ≡ 0 → answers ≡ [] → NeverBegins old buffer calls answers 0 old buffer
never reserve old buffer calls answers room count failed so is full empty none =
    let more = fact_of_error reserve (room < count + length calls) (sym is ∙ so) full in
    record { some = omega (arith, empty, more); first = refl; answered = none; state = refl; screen = refl }

pub returns-then-is_err-clause-led : goal.returns-then-is_err-clause-led
returns-then-is_err-clause-led c =
    inl (never c.try_reserve.result c.args.area.now c.args.buffer.now c.args.calls.now c.try_reserve.new.self.items (vec_capacity c.new-answers.result)
    (vec_len c.new-answers.result) c.is_err.result c.if-is_err.true c.is_err.ensures.value c.try_reserve.ensures.full c.new-answers.ensures.len
    (c.try_reserve.ensures.items ∙ c.new-answers.ensures.items))

pub returns-then-is_err-clause-ranges : goal.returns-then-is_err-clause-ranges
returns-then-is_err-clause-ranges c =
    c.ranges_follow_each_run.ensures c.args.calls.now c.try_reserve.new.self.items (Some 0) c.args.area.now c.args.area.now c.args.buffer.now c.args.buffer.now c.is_sound.ensures c.requires
    (inl (never c.try_reserve.result c.args.area.now c.args.buffer.now c.args.calls.now c.try_reserve.new.self.items (vec_capacity c.new-answers.result)
    (vec_len c.new-answers.result) c.is_err.result c.if-is_err.true c.is_err.ensures.value c.try_reserve.ensures.full c.new-answers.ensures.len
    (c.try_reserve.ensures.items ∙ c.new-answers.ensures.items)))

pub returns-then-is_err-clause-changes : goal.returns-then-is_err-clause-changes
returns-then-is_err-clause-changes c =
    c.changes_follow_each_run.ensures c.args.calls.now c.try_reserve.new.self.items (Some 0) c.args.area.now c.args.area.now c.args.buffer.now c.args.buffer.now c.is_sound.ensures c.requires
    (inl (never c.try_reserve.result c.args.area.now c.args.buffer.now c.args.calls.now c.try_reserve.new.self.items (vec_capacity c.new-answers.result)
    (vec_len c.new-answers.result) c.is_err.result c.if-is_err.true c.is_err.ensures.value c.try_reserve.ensures.full c.new-answers.ensures.len
    (c.try_reserve.ensures.items ∙ c.new-answers.ensures.items)))

pub returns-clause-ranges : goal.returns-clause-ranges
returns-clause-ranges c =
    let made = c.make_all in
    c.ranges_follow_each_run.ensures c.args.calls.now made.result.answers.items made.result.refused c.args.area.now made.new.area c.args.buffer.now made.new.buffer c.is_sound.ensures c.requires made.ensures

pub returns-clause-changes : goal.returns-clause-changes
returns-clause-changes c =
    let made = c.make_all in
    c.changes_follow_each_run.ensures c.args.calls.now made.result.answers.items made.result.refused c.args.area.now made.new.area c.args.buffer.now made.new.buffer c.is_sound.ensures c.requires made.ensures

pub returns-clause-settled : goal.returns-clause-settled
returns-clause-settled c = λ settled.
    let made = c.make_all in
    c.settled_runs_stay.ensures c.args.calls.now made.result.answers.items made.result.refused c.args.area.now made.new.area c.args.buffer.now made.new.buffer c.is_sound.ensures settled c.requires made.ensures
