use Rattle.std.proofs.Common.{ℕ, List, sym, ap, ◌∙◌, arith, vec_len, subst}
use Rattle.textarea_terminal.specs.InputEvent.{EventValue}
use Rattle.textarea_terminal.specs.InputReply.{made, refined}
use Rattle.textarea_terminal.specs.InputStream.{AddsUpTo, Decoding, found_value}
use Rattle.textarea_terminal.specs.declared.input.reply.Expected.{Expected}
use Rattle.textarea_terminal.proofs.InputUnits.{unit_at-nil}
use Rattle.textarea_terminal.proofs.InputStreams.{unit_at-shorter, decoding-none, decoding-some, made-some, made-none, AddsUpTo-found, AddsUpTo-begun, AddsUpTo-trans, AddsUpTo-front_of_more}
use Rattle.textarea_terminal.proofs.input.decoder.read_units.Goals as goal

pub loop-found-smaller : goal.loop-found-smaller
loop-found-smaller c =
    let short = unit_at-shorter c.loop-found.rest.now (found_value c.in-Some.found, c.in-Some.after.now) c.in-Some.ensures in
    omega (arith, short, c.in_ok-rest.ensures.shorter)

pub loop-found-preserved : goal.loop-found-preserved
loop-found-preserved c =
    let x : EventValue × List ℕ = (found_value c.in-Some.found, c.in-Some.after.now) in
    let e = c.loop-found.expected in
    let next = c.in_ok-expected.expected in
    let all = (made c.args.expected c.args.bytes.now).0 in
    let mid : AddsUpTo c.args.events.now.items c.push_found.new.events.items (made (refined e x.0).1 x.1).0 all =
    AddsUpTo-found e c.args.events.now.items c.loop-found.events.items c.push_found.new.events.items all c.loop-found.rest.now x c.in-Some.ensures c.loop-found.invariant.events c.in_ok-expected.ensures.events in
    let P : Expected → Type 0 = λ f. AddsUpTo c.args.events.now.items c.push_found.new.events.items (made f x.1).0 all in
    record {
      within = omega arith;
      begun = unit_at-nil;
      left = c.in_ok-rest.ensures.left ∙ sym (ap (λ (d : Decoding). d.1) (decoding-some c.loop-found.rest.now x c.in-Some.ensures)) ∙ c.loop-found.invariant.left;
      events = AddsUpTo-trans c.args.events.now.items c.push_found.new.events.items c.push_short.new.events.items (made next x.1).0 (made next c.in_ok-rest.rest.now).0 all
          (subst P (sym c.in_ok-expected.ensures.expected) mid) c.in_ok-rest.ensures.events;
      expected = c.in_ok-rest.ensures.expected ∙ ap (λ (f : Expected). (made f x.1).1) c.in_ok-expected.ensures.expected
          ∙ sym (ap (λ (d : List EventValue × Expected). d.1) (made-some e c.loop-found.rest.now x c.in-Some.ensures)) ∙ c.loop-found.invariant.expected;
    }

pub returns-in_err-expected-clause-front : goal.returns-in_err-expected-clause-front
returns-in_err-expected-clause-front c =
    AddsUpTo-front_of_more (vec_len c.args.events.now) (vec_len c.loop-found.events) c.args.events.now.items c.loop-found.events.items c.push_found.new.events.items
    (made c.loop-found.expected c.loop-found.rest.now).0 (made c.args.expected c.args.bytes.now).0
    (omega (arith, c.args.events.now.ok.0)) (omega (arith, c.loop-found.events.ok.0)) c.loop-found.invariant.events c.in_err-expected.ensures.front

pub returns-in_err-rest-clause-front : goal.returns-in_err-rest-clause-front
returns-in_err-rest-clause-front c =
    let x : EventValue × List ℕ = (found_value c.in-Some.found, c.in-Some.after.now) in
    let e = c.loop-found.expected in
    let all = (made c.args.expected c.args.bytes.now).0 in
    let mid = AddsUpTo-found e c.args.events.now.items c.loop-found.events.items c.push_found.new.events.items all c.loop-found.rest.now x
    c.in-Some.ensures c.loop-found.invariant.events c.in_ok-expected.ensures.events in
    AddsUpTo-front_of_more (vec_len c.args.events.now) (vec_len c.push_found.new.events) c.args.events.now.items c.push_found.new.events.items c.push_short.new.events.items
    (made (refined e x.0).1 x.1).0 all
    (omega (arith, c.args.events.now.ok.0)) (omega (arith, c.push_found.new.events.ok.0)) mid c.in_err-rest.ensures.front

pub returns-clause-rest : goal.returns-clause-rest
returns-clause-rest c = sym (ap (λ (d : Decoding). d.1) (decoding-none c.loop-found.rest.now c.in_default.ensures)) ∙ c.loop-found.invariant.left

pub returns-clause-expected : goal.returns-clause-expected
returns-clause-expected c = sym (ap (λ (d : List EventValue × Expected). d.1) (made-none c.loop-found.expected c.loop-found.rest.now c.in_default.ensures)) ∙ c.loop-found.invariant.expected

pub returns-clause-events : goal.returns-clause-events
returns-clause-events c = AddsUpTo-begun c.loop-found.expected c.args.events.now.items c.loop-found.events.items (made c.args.expected c.args.bytes.now).0 c.loop-found.rest.now c.in_default.ensures c.loop-found.invariant.events
