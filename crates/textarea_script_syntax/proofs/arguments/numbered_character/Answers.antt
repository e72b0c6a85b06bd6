use Rattle.std.proofs.Common.{◌∙◌, ℕ, Option, Some, None, option_map, ap, sym, lit<}
use Rattle.std.proofs.lemmas.Str.Pattern.{split_once_first, strip_prefix_char}
use Rattle.textarea_script_syntax.proofs.Escapes.{numbered_bare, numbered_closed, numbered_open}
use Rattle.textarea_script_syntax.proofs.arguments.numbered_character.Goals as goal

pub returns-in_err-strip_prefix-clause-value : goal.returns-in_err-strip_prefix-clause-value
returns-in_err-strip_prefix-clause-value c =
    let none = numbered_bare c.args.text.now (strip_prefix_char 123 c.args.text.now None c.in_err-strip_prefix.ensures.cases (lit< tt)) in
    rw c.from_residual.ensures none

pub returns-in_err-digits-clause-value : goal.returns-in_err-digits-clause-value
returns-in_err-digits-clause-value c =
    let rest = c.in_ok-strip_prefix.field-0 in
    let begun = strip_prefix_char 123 c.args.text.now (Some rest) c.in_ok-strip_prefix.ensures.cases (lit< tt) in
    let none = numbered_open c.args.text.now rest.now begun (split_once_first 125 rest.now None c.in_err-digits.ensures.cases (lit< tt)) in
    rw c.from_residual-in_err-digits.ensures none

pub returns-in_err-character_of_number-clause-value : goal.returns-in_err-character_of_number-clause-value
returns-in_err-character_of_number-clause-value c =
    let rest = c.in_ok-strip_prefix.field-0 in
    let begun = strip_prefix_char 123 c.args.text.now (Some rest) c.in_ok-strip_prefix.ensures.cases (lit< tt) in
    let split = split_once_first 125 rest.now (Some (c.in_ok-digits.digits, c.in_ok-digits.rest)) c.in_ok-digits.ensures.cases (lit< tt) in
    let none = numbered_closed c.args.text.now rest.now c.in_ok-digits.digits.now c.in_ok-digits.rest.now begun split.0 split.1 split.2
    ∙ ap (λ (o : Option ℕ). option_map (λ character. (character, c.in_ok-digits.rest.now)) o) (sym c.in_err-character_of_number.ensures) in
    rw c.from_residual-in_err-character_of_number.ensures none

pub returns-clause-value : goal.returns-clause-value
returns-clause-value c =
    let rest = c.in_ok-strip_prefix.field-0 in
    let begun = strip_prefix_char 123 c.args.text.now (Some rest) c.in_ok-strip_prefix.ensures.cases (lit< tt) in
    let split = split_once_first 125 rest.now (Some (c.in_ok-digits.digits, c.in_ok-digits.rest)) c.in_ok-digits.ensures.cases (lit< tt) in
    numbered_closed c.args.text.now rest.now c.in_ok-digits.digits.now c.in_ok-digits.rest.now begun split.0 split.1 split.2
    ∙ ap (λ (o : Option ℕ). option_map (λ character. (character, c.in_ok-digits.rest.now)) o) (sym c.in_ok-character_of_number.ensures)
