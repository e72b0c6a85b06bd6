use Rattle.std.proofs.Common.{rules, ◌≡◌, ◌∷◌, ◌++◌, Some, sym, ap, ◌∙◌}
use Rattle.textarea_terminal.specs.InputEvent.{input}
use Rattle.textarea_terminal.specs.InputKey.{entry, numbered_keys}
use Rattle.textarea_terminal.specs.InputUnit.{unit_at}
use Rattle.textarea_terminal.proofs.InputShort.{tilde-read}
use Rattle.textarea_terminal.proofs.input.short.read_numbered.Goals as goal

pub returns-then-byte-eq126 : goal.returns-then-byte-eq126
returns-then-byte-eq126 c = λ digits are.
    let rest = c.in_ok-byte.rest.now in
    let whole : c.args.bytes.now ≡ 126 ∷ rest = search rules in
    let found : entry numbered_keys c.args.number ≡ Some c.in_ok-key.key = search rules in
    ap (λ bytes. unit_at (27 ∷ 91 ∷ (digits ++ bytes))) whole ∙ tilde-read digits rest c.args.number c.in_ok-key.key are found
    ∙ ap (λ i. Some (input i, rest)) (sym c.plain_input.ensures)
