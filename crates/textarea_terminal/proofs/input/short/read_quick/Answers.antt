use Rattle.std.proofs.Common.{rules, ◌≡◌, ◌∷◌, Some, sym, ap, ◌∙◌, arith}
use Rattle.textarea_data.specs.declared.input.Key.TheVariants as key
use Rattle.textarea_terminal.specs.InputEvent.{input}
use Rattle.textarea_data.specs.Input.{input_of_key}
use Rattle.textarea_terminal.proofs.InputRows.{unit_at-letter}
use Rattle.textarea_terminal.proofs.input.short.read_quick.Goals as goal

pub returns-then-byte-le126 : goal.returns-then-byte-le126
returns-then-byte-le126 c =
    let letter = c.in_ok-byte.byte.now in
    let rest = c.in_ok-byte.rest.now in
    let whole : c.args.bytes.now ≡ letter ∷ rest = search rules in
    unit_at-letter c.args.bytes.now rest letter whole (omega arith) (omega arith)
    ∙ ap (λ i. Some (input i, rest)) (sym (c.plain_input.ensures ∙ ap (λ n. input_of_key (key.Char n)) c.from.ensures))
