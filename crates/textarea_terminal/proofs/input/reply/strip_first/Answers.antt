use Rattle.std.proofs.Common.{◌≡◌, ◌∷◌, length, Some, None, refl, sym, ap, ◌∙◌, arith}
use Rattle.textarea_terminal.specs.InputEvent.{value_of}
use Rattle.textarea_terminal.specs.InputReply.{reply_at, stripped, with_stripped}
use Rattle.textarea_terminal.specs.declared.input.reply.PasteParts.{PasteParts}
use Rattle.textarea_terminal.proofs.InputReplies.{reply-shorter, with_stripped-byte, with_stripped-reply}
use Rattle.textarea_terminal.proofs.input.reply.strip_first.Goals as goal

pub returns-in_ok-push-in-Some-clause-step : goal.returns-in_ok-push-in-Some-clause-step
returns-in_ok-push-in-Some-clause-step c =
    let old = c.args.parts.now in
    let new : PasteParts = record { text = old.text; replies = c.push.new.self; expected = c.in-Some.expected } in
    let is : reply_at old.expected (c.args.first ∷ c.args.after.now) ≡ Some (value_of c.in-Some.event, (c.in-Some.expected, c.in-Some.rest.now)) = ap (reply_at old.expected) (sym c.requires) ∙ c.in-Some.ensures in
    with_stripped-reply old new c.args.first c.args.after.now c.in-Some.rest.now c.in-Some.event refl c.in_ok-push-in-Some.ensures.items is
    ∙ ap (λ xs. with_stripped old (stripped old.expected xs)) (sym c.requires)

pub returns-in_ok-push-in-Some-clause-shorter : goal.returns-in_ok-push-in-Some-clause-shorter
returns-in_ok-push-in-Some-clause-shorter c =
    let old = c.args.parts.now in
    let is : reply_at old.expected (c.args.first ∷ c.args.after.now) ≡ Some (value_of c.in-Some.event, (c.in-Some.expected, c.in-Some.rest.now)) = ap (reply_at old.expected) (sym c.requires) ∙ c.in-Some.ensures in
    let short = reply-shorter old.expected c.args.first c.args.after.now (value_of c.in-Some.event, (c.in-Some.expected, c.in-Some.rest.now)) is in
    omega (arith, short, ap length c.requires)

pub returns-in_ok-push-in-None-clause-step : goal.returns-in_ok-push-in-None-clause-step
returns-in_ok-push-in-None-clause-step c =
    let old = c.args.parts.now in
    let new : PasteParts = record { text = c.push-in-None.new.self; replies = old.replies; expected = old.expected } in
    let is : reply_at old.expected (c.args.first ∷ c.args.after.now) ≡ None = ap (reply_at old.expected) (sym c.requires) ∙ c.in-None.ensures in
    with_stripped-byte old new c.args.first c.args.after.now c.in_ok-push-in-None.ensures.items refl refl is
    ∙ ap (λ xs. with_stripped old (stripped old.expected xs)) (sym c.requires)
