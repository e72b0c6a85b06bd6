use Rattle.std.proofs.Common.{rules, ◌≡◌, ◌∷◌, ◌++◌, true, ap, ◌∙◌, arith}
use Rattle.textarea_terminal.specs.InputParameter.{is_digit}
use Rattle.textarea_terminal.specs.InputUnit.{unit_at}
use Rattle.textarea_terminal.proofs.InputShort.{in-digits, modified-read}
use Rattle.textarea_terminal.proofs.input.short.read_modified.Goals as goal

pub returns : goal.returns
returns c = λ digits are.
    let digit = c.in_ok-digit.digit.now in
    let last = c.in_ok-last.last.now in
    let rest = c.in_ok-last.rest.now in
    let after : c.in_ok-digit.after.now ≡ last ∷ rest = search rules in
    let whole : c.args.bytes.now ≡ digit ∷ c.in_ok-digit.after.now = search rules in
    let is : is_digit digit ≡ true = in-digits digit (omega arith) (omega arith) in
    ap (λ bytes. unit_at (27 ∷ 91 ∷ (digits ++ 59 ∷ bytes))) (whole ∙ ap (λ bytes. digit ∷ bytes) after)
    ∙ modified-read digits rest c.args.number digit last c.in_ok-key.key are is c.in_ok-key.ensures.end.0 c.in_ok-key.ensures.end.1 c.in_ok-key.ensures.event
