use Rattle.std.proofs.Common.{◌≡◌, ◌+◌, ◌<◌, ◌∷◌, [], ◌++◌, ◌∙◌, ap, cond, inr, length, map, refl, sym, subst, take, take_all, List, arith, is_ok, rules, true, vec_len, vec_capacity}
use Rattle.std.proofs.lemmas.Option.{slice_get_read}
use Rattle.tui_textarea.specs.Run.{Leads}
use Rattle.tui_textarea.specs.CallResults.{call_result}
use Rattle.textarea_calls.specs.declared.answer.Answer.{Answer}
use Rattle.textarea_calls.specs.declared.call.Call.{Call}
use Rattle.tui_textarea.proofs.Runs.{leads_more}
use Rattle.textarea_run.proofs.run.make_all.Goals as goal

pub loop-index-init : goal.loop-index-init
loop-index-init c =
    record {
      led = subst (λ (all : List Answer). Leads c.args.area.now c.args.buffer.now [] (map call_result all) c.args.area.now c.args.buffer.now) (sym c.requires.none) (refl, refl);
      counted = search rules;
      room = search rules;
    }

pub loop-index-preserved : goal.loop-index-preserved
loop-index-preserved c =
    let before = c.loop-index.invariant in
    let did = c.in-Ok.ensures in
    let within = c.loop-index-test.true in
    let free : vec_len c.loop-index.answers < vec_capacity c.loop-index.answers = omega (arith, before.counted, before.room, within) in
    let pushed : is_ok c.push.result ≡ true = c.push.ensures.succeeds free in
    let items : c.push.new.self.items ≡ c.loop-index.answers.items ++ (c.in-Ok.answer ∷ []) =
    c.push.ensures.items ∙ ap (λ b. cond b (c.loop-index.answers.items ++ c.in-Ok.answer ∷ []) c.loop-index.answers.items) pushed in
    record {
      led = subst (λ (all : List Answer). Leads c.args.area.now c.args.buffer.now (take (c.loop-index.index + 1) c.args.calls.now) (map call_result all) c.perform.new.area c.perform.new.buffer) (sym items)
          (leads_more c.args.area.now c.loop-index.area c.perform.new.area c.args.buffer.now c.loop-index.buffer c.perform.new.buffer c.args.calls.now c.loop-index.answers.items
          c.loop-index.index c.index-calls-index.result c.in-Ok.answer within c.index-calls-index.is before.led
          (record { answered = did.answer; after = did.ok; drawn = did.displayed }));
      counted = c.push.ensures.len ∙ ap (λ b. cond b (vec_len c.loop-index.answers + 1) (vec_len c.loop-index.answers)) pushed ∙ ap (λ n. n + 1) before.counted;
      room = omega (arith, before.room, c.push.ensures.capacity);
    }

pub returns-in-Err : goal.returns-in-Err
returns-in-Err c =
    inr (record {
      call = c.index-calls-index.result;
      here = slice_get_read c.args.calls.now (length c.args.calls.now) c.loop-index.index c.index-calls-index.result refl c.loop-index-test.true c.index-calls-index.is;
      before = c.loop-index.area;
      screen = c.loop-index.buffer;
      led = c.loop-index.invariant.led;
      ran_out = c.in-Err.ensures.err;
      buffer_left = c.in-Err.ensures.buffer_left;
    })

pub returns : goal.returns
returns c =
    subst (λ (made : List Call). Leads c.args.area.now c.args.buffer.now made (map call_result c.loop-index.answers.items) c.loop-index.area c.loop-index.buffer)
    (take_all c.loop-index.index c.args.calls.now (omega (arith, c.loop-index-test.false))) c.loop-index.invariant.led
