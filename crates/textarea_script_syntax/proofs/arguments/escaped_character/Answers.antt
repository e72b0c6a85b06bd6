use Rattle.std.proofs.Common.{rules, ◌≡◌, ◌≢◌, ◌∙◌, ◌++◌, length, sym, ap}
use Rattle.std.specs.Prelude.{encode_utf8}
use Rattle.textarea_script_syntax.proofs.Escapes.{escape_nothing, escape_number, escape_other}
use Rattle.textarea_script_syntax.proofs.arguments.escaped_character.Goals as goal

pub returns-in_err-next-clause-value : goal.returns-in_err-next-clause-value
returns-in_err-next-clause-value c =
    let none = escape_nothing c.args.text.now (ap length (sym c.chars-rest.ensures.rest) ∙ c.in_err-next.ensures.steps.0.0) in
    rw c.from_residual.ensures none

pub returns-in-u-clause-value : goal.returns-in-u-clause-value
returns-in-u-clause-value c =
    let is : c.args.text.now ≡ encode_utf8 117 ++ c.as_str-in-u.result.now = cc (c.in_ok-next.ensures.steps.0, c.chars-rest.ensures.rest, c.as_str-in-u.ensures, c.in-u.is) in
    let same = escape_number c.args.text.now c.as_str-in-u.result.now is in
    rw same c.numbered_character.ensures.value

pub returns-in_default-clause-value : goal.returns-in_default-clause-value
returns-in_default-clause-value c =
    let character = c.in_ok-next.field-0 in
    let is : c.args.text.now ≡ encode_utf8 character ++ c.next.new.self.rest.now = cc (c.in_ok-next.ensures.steps.0, c.chars-rest.ensures.rest) in
    let n : character ≢ 110 = search rules in
    let r : character ≢ 114 = search rules in
    let t : character ≢ 116 = search rules in
    let b : character ≢ 92 = search rules in
    let u : character ≢ 117 = search rules in
    escape_other c.args.text.now c.next.new.self.rest.now character is n r t b u
