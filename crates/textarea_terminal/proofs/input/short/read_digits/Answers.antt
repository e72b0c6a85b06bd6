use Rattle.std.proofs.Common.{rules, ◌≡◌, ◌∷◌, [], true, sym, ap, ◌∙◌}
use Rattle.textarea_terminal.specs.InputParameter.{is_digit}
use Rattle.textarea_terminal.specs.InputUnit.{unit_at}
use Rattle.textarea_terminal.proofs.InputShort.{digits-one, digits-two}
use Rattle.textarea_terminal.proofs.input.short.read_digits.Goals as goal

pub returns-then-is_digit : goal.returns-then-is_digit
returns-then-is_digit c =
    let second = c.in_ok-second.second.now in
    let after = c.in_ok-second.after.now in
    let whole : c.args.bytes.now ≡ second ∷ after = search rules in
    let is : is_digit second ≡ true = sym c.is_digit.ensures ∙ c.if-is_digit.true in
    ap (λ bytes. unit_at (27 ∷ 91 ∷ c.args.digit ∷ bytes)) whole
    ∙ c.in_ok-key.ensures (c.args.digit ∷ second ∷ []) (digits-two c.args.digit second c.requires is)

pub returns : goal.returns
returns c = c.in_ok-numbered.ensures (c.args.digit ∷ []) (digits-one c.args.digit c.requires)
