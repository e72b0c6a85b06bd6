use Rattle.std.proofs.Common.{◌≡◌, ◌<◌, ℕ, List, ap, length, get_or, rules, subst, sym, ◌∙◌}
use Rattle.std.proofs.lemmas.List.{get_or-map, length-map}
use Rattle.textarea_calls.specs.declared.call.Call.{Call}
use Rattle.textarea_editor.proofs.Drafts.{after_plain, draws_plain, edits_plain, ran_out_plain, result_plain}
use Rattle.textarea_editor.proofs.draft.make_all.Goals as goal
use Rattle.textarea_editor.specs.Draft.{plain_call, plain_calls}
use Rattle.textarea_modal.proofs.Runs.{draws_nothing_of, made_more, on_err, ran_out_here}
use Rattle.tui_textarea.specs.CallResults.{call_result}

within : (calls : List Call) (index : ℕ) → index < length calls → index < length (plain_calls calls)
within calls index h = subst (λ (n : ℕ). index < n) (sym (length-map calls plain_call)) h

is_call : (calls : List Call) (index : ℕ) (this : Call) → index < length calls → this ≡ get_or calls index this → plain_call this ≡ get_or (plain_calls calls) index (plain_call this)
is_call calls index this h is =
    ap plain_call is ∙ sym (get_or-map plain_call calls index this (plain_call this) h)

pub returns-in_err-make-clause-err : goal.returns-in_err-make-clause-err
returns-in_err-make-clause-err c =
    let calls = c.args.calls.now in
    let index = c.loop-call.call-index in
    let here = c.loop-call-test.true in
    let this = c.call-item.result in
    on_err c.from_residual.result
    (ran_out_here c.args.area.now c.loop-call.area c.make.new.area (plain_calls calls) index (plain_call this) (within calls index here)
    (is_call calls index this here c.call-item.is) c.loop-call.invariant (ran_out_plain this c.loop-call.area c.make.new.area c.in_err-make.ensures.err)
    (draws_nothing_of (plain_call this) (search (rules, draws_plain))))

pub loop-call-preserved : goal.loop-call-preserved
loop-call-preserved c =
    let calls = c.args.calls.now in
    let index = c.loop-call.call-index in
    let here = c.loop-call-test.true in
    let this = c.call-item.result in
    let answer = c.in_ok-make.field-0 in
    made_more c.args.area.now c.loop-call.area c.make.new.area (plain_calls calls) index (plain_call this) answer (within calls index here) (is_call calls index this here c.call-item.is) c.loop-call.invariant
    (result_plain c.loop-call.area this (call_result answer) c.in_ok-make.ensures.answer)
    (after_plain c.loop-call.area this (call_result answer) c.make.new.area c.in_ok-make.ensures.ok)
    (draws_nothing_of (plain_call this) (search (rules, draws_plain)))
    (λ none. c.others_edit_nothing.ensures.text c.loop-call.area c.make.new.area this (call_result answer) (sym (edits_plain this) ∙ none) c.in_ok-make.ensures.ok)
