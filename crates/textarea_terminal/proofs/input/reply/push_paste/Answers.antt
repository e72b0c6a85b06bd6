use Rattle.std.proofs.Common.{rules, ◌≡◌, List, false, sym, ap, subst}
use Rattle.textarea_terminal.specs.InputEvent.{EventValue}
use Rattle.textarea_terminal.specs.InputStream.{Adds}
use Rattle.textarea_terminal.specs.declared.input.reply.Expected.{Expected}
use Rattle.textarea_terminal.proofs.InputReplies.{refined-unasked}
use Rattle.textarea_terminal.proofs.input.reply.push_paste.Goals as goal

pub returns-then-not-expected-clause-events : goal.returns-then-not-expected-clause-events
returns-then-not-expected-clause-events c =
    let none : c.args.expected.asked ≡ 0 = search rules in
    let off : c.args.expected.resizes ≡ false = search rules in
    let same = refined-unasked c.args.expected c.args.bytes.now none off in
    let P : List EventValue × Expected → Type 0 = λ d. Adds c.args.events.now.items c.push_text.new.events.items d.0 in
    subst P (sym same) c.in_ok-push_text.ensures.events

pub returns-then-not-expected-clause-expected : goal.returns-then-not-expected-clause-expected
returns-then-not-expected-clause-expected c =
    let none : c.args.expected.asked ≡ 0 = search rules in
    let off : c.args.expected.resizes ≡ false = search rules in
    sym (ap (λ (d : List EventValue × Expected). d.1) (refined-unasked c.args.expected c.args.bytes.now none off))
