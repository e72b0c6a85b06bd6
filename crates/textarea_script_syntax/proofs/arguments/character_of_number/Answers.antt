use Rattle.std.proofs.Common.{arith, rules, ◌≡◌, ◌∙◌, None, sym}
use Rattle.std.specs.Result.{result_ok}
use Rattle.textarea_script_syntax.proofs.Escapes.{hex_parsed}
use Rattle.textarea_script_syntax.proofs.arguments.character_of_number.Goals as goal

pub returns-in_err-ok : goal.returns-in_err-ok
returns-in_err-ok c =
    let none : result_ok c.from_str_radix.result ≡ None = sym c.ok.ensures.value ∙ c.in_err-ok.was in
    c.from_residual.ensures ∙ sym (hex_parsed c.args.digits.now c.from_str_radix.result c.from_str_radix.ensures.value none (search rules) (omega arith))
