use Rattle.std.proofs.Common.{rules, ◌≡◌, ◌∷◌, Some, sym, ap, ◌∙◌}
use Rattle.textarea_terminal.specs.InputEvent.{input}
use Rattle.textarea_terminal.specs.InputKey.{entry, letter_keys}
use Rattle.textarea_terminal.specs.InputUnit.{unit_at}
use Rattle.textarea_terminal.proofs.InputShort.{single-read}
use Rattle.textarea_terminal.proofs.input.short.read_short.Goals as goal

pub returns : goal.returns
returns c =
    let letter = c.in_ok-letter.letter.now in
    let rest = c.in_ok-letter.rest.now in
    let after : c.in_ok-introducer.after.now ≡ letter ∷ rest = search rules in
    let whole : c.args.bytes.now ≡ 79 ∷ c.in_ok-introducer.after.now = search rules in
    let found : entry letter_keys letter ≡ Some c.in_ok-lettered.lettered = search rules in
    ap (λ bytes. unit_at (27 ∷ bytes)) (whole ∙ ap (λ bytes. 79 ∷ bytes) after) ∙ single-read letter rest c.in_ok-lettered.lettered found
    ∙ ap (λ i. Some (input i, rest)) (sym c.plain_input.ensures)
