use Rattle.std.proofs.Common.{rules, ◌≡◌, ℕ, List, false, refl, sym, ap, ◌∙◌, arith, subst}
use Rattle.textarea_terminal.specs.InputEvent.{EventValue, input}
use Rattle.textarea_terminal.specs.InputStream.{AddsUpTo, Decoding}
use Rattle.textarea_terminal.specs.InputReply.{made}
use Rattle.textarea_terminal.specs.declared.input.reply.Expected.{Expected}
use Rattle.textarea_terminal.specs.declared.input.event.Event.TheVariants as event
use Rattle.textarea_terminal.proofs.InputStreams.{unit_at-shorter, decoding-some, made-input, AddsUpTo-push}
use Rattle.textarea_terminal.proofs.input.decoder.push_short.Goals as goal

pub loop-input-smaller : goal.loop-input-smaller
loop-input-smaller c = unit_at-shorter c.loop-input.rest.now (input c.in-Some.input, c.in-Some.after.now) c.in-Some.ensures

pub loop-input-preserved : goal.loop-input-preserved
loop-input-preserved c =
    let e = c.args.expected in
    let x : EventValue × List ℕ = (input c.in-Some.input, c.in-Some.after.now) in
    let short = unit_at-shorter c.loop-input.rest.now x c.in-Some.ensures in
    let off : e.console ≡ false = search rules in
    let step = made-input e c.in-Some.input c.loop-input.rest.now c.in-Some.after.now off c.in-Some.ensures in
    let P : List EventValue × Expected → Type 0 = λ d. AddsUpTo c.args.events.now.items c.loop-input.events.items d.0 (made e c.args.bytes.now).0 in
    record {
      left = sym (ap (λ (d : Decoding). d.1) (decoding-some c.loop-input.rest.now x c.in-Some.ensures)) ∙ c.loop-input.invariant.left;
      events = rw c.in_ok-push.ensures.items (AddsUpTo-push c.args.events.now.items c.loop-input.events.items (event.Input c.in-Some.input) x.0 (made e x.1).0 (made e c.args.bytes.now).0 refl
          (subst P step c.loop-input.invariant.events));
      expected = sym (ap (λ (d : List EventValue × Expected). d.1) step) ∙ c.loop-input.invariant.expected;
      shorter = omega (arith, short);
    }
