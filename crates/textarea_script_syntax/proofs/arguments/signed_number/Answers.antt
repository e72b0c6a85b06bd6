use Rattle.std.proofs.Common.{rules, ◌≡◌, ◌∙◌, false, true, sym, ap}
use Rattle.std.specs.Char.{is_ascii_digit}
use Rattle.std.specs.List.{list_all}
use Rattle.textarea_script_syntax.proofs.Numbers.{signed_letters, signed_parsed, stripped}
use Rattle.textarea_script_syntax.proofs.arguments.signed_number.Goals as goal

pub returns-then-not-is_all_digits : goal.returns-then-not-is_all_digits
returns-then-not-is_all_digits c =
    let digits = stripped c.args.text c.strip_prefix.result c.unwrap_or-digits.result c.strip_prefix.ensures.cases c.unwrap_or-digits.ensures in
    let letters : list_all (λ byte. is_ascii_digit byte) c.unwrap_or-digits.result.now ≡ false = search rules in
    sym (signed_letters c.args.text.now (ap (list_all (λ byte. is_ascii_digit byte)) (sym digits) ∙ letters))

pub returns : goal.returns
returns c =
    let digits = stripped c.args.text c.strip_prefix.result c.unwrap_or-digits.result c.strip_prefix.ensures.cases c.unwrap_or-digits.ensures in
    let all : list_all (λ byte. is_ascii_digit byte) c.unwrap_or-digits.result.now ≡ true = search rules in
    c.ok.ensures.value ∙ signed_parsed c.args.text.now c.parse.result c.parse.ensures.value.0 (ap (list_all (λ byte. is_ascii_digit byte)) (sym digits) ∙ all)
