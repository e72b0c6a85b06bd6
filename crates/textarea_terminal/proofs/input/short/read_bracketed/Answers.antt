use Rattle.std.proofs.Common.{rules, ◌≡◌, ◌∷◌, Some, sym, ap, ◌∙◌}
use Rattle.textarea_terminal.specs.InputEvent.{input}
use Rattle.textarea_terminal.specs.InputKey.{entry, letter_keys}
use Rattle.textarea_terminal.proofs.InputRows.{unit_at-letter_key}
use Rattle.textarea_terminal.proofs.input.short.read_bracketed.Goals as goal

pub returns : goal.returns
returns c =
    let letter = c.in_ok-byte.byte.now in
    let rest = c.in_ok-byte.rest.now in
    let whole : c.args.bytes.now ≡ letter ∷ rest = search rules in
    let found : entry letter_keys letter ≡ Some c.in_ok-lettered.lettered = search rules in
    unit_at-letter_key (27 ∷ 91 ∷ c.args.bytes.now) rest letter c.in_ok-lettered.lettered (ap (λ bytes. 27 ∷ 91 ∷ bytes) whole) found
    ∙ ap (λ i. Some (input i, rest)) (sym c.plain_input.ensures)
