use Rattle.std.proofs.Common.{rules, ◌≡◌, Some, ap, ◌∙◌, arith}
use Rattle.textarea_terminal.specs.InputEvent.{input}
use Rattle.textarea_terminal.specs.InputKey.{entry, input_with, letter_keys, numbered_keys}
use Rattle.textarea_terminal.proofs.InputShort.{two-tilde, two-letter, letter-final, letter-not_code}
use Rattle.textarea_terminal.proofs.input.short.modified_key.Goals as goal

pub returns-then-last-eq126-clause-event : goal.returns-then-last-eq126-clause-event
returns-then-last-eq126-clause-event c =
    let found : entry numbered_keys c.args.number ≡ Some c.in_ok-key.key = search rules in
    let whole : input_with c.in_ok-key.key c.args.parameter ≡ c.modified_input.result = search rules in
    two-tilde c.args.number c.args.parameter c.args.last c.in_ok-key.key (omega arith) found ∙ ap input whole

pub returns-clause-event : goal.returns-clause-event
returns-clause-event c =
    let found : entry letter_keys c.args.last ≡ Some c.in_ok-lettered.lettered = search rules in
    let whole : input_with c.in_ok-lettered.lettered c.args.parameter ≡ c.modified_input-input.result = search rules in
    two-letter c.args.number c.args.parameter c.args.last c.in_ok-lettered.lettered (omega arith) found ∙ ap input whole

pub returns-clause-end : goal.returns-clause-end
returns-clause-end c =
    let found : entry letter_keys c.args.last ≡ Some c.in_ok-lettered.lettered = search rules in
    (letter-final c.args.last c.in_ok-lettered.lettered found, letter-not_code c.args.last c.in_ok-lettered.lettered found)
