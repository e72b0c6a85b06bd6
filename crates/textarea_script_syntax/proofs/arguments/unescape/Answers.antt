use Rattle.std.proofs.Common.{◌≡◌, ◌∙◌, ◌++◌, Bor, List, Option, Some, ap, arith, lit<, string_bytes, ℕ}
use Rattle.std.specs.Prelude.{option_copied}
use Rattle.std.proofs.lemmas.Grind.{common_steps}
use Rattle.std.proofs.lemmas.Str.{encode_ascii}
use Rattle.textarea_script_syntax.specs.Arguments.{IsUnparsedAs}
use Rattle.textarea_script_syntax.specs.Escapes.{unescaped}
use Rattle.textarea_script_syntax.proofs.Tokens.{first_read, next_read, rest_unread, unescaped_unread, with_rest}
use Rattle.textarea_script_syntax.proofs.arguments.unescape.Goals as goal
use Rattle.textarea_script_syntax.proofs.arguments.unescape.Goals.{After-push_line-in-Some}

pub returns-in_err-rest : goal.returns-in_err-rest
returns-in_err-rest c =
    let error = c.in_err-rest.field-0.0 in
    let unread : IsUnparsedAs (unescaped c.args.text.now) error = unescaped_unread c.args.text.now error c.in_err-rest.ensures.value in
    grind (arith, common_steps)

pub loop-rest-init : goal.loop-rest-init
loop-rest-init c =
    first_read (string_bytes c.in_ok-unescaped.unescaped) (string_bytes c.push_line.new.line) c.args.text.now (option_copied c.in_ok-rest.rest) c.in_ok-unescaped.ensures.bytes c.in_ok-rest.ensures.value

-- the text so far, a line feed, and the rest
read : (c : After-push_line-in-Some) → unescaped c.args.text.now ≡ with_rest (string_bytes c.loop-rest.unescaped) (Some c.in-Some.text.now)
read c = c.loop-rest.invariant ∙ ap (λ (rest : Option (Bor (List ℕ))). with_rest (string_bytes c.loop-rest.unescaped) (option_copied rest)) c.in-Some.is

pub returns-in_err-after : goal.returns-in_err-after
returns-in_err-after c =
    let error = c.in_err-after.field-0.0 in
    let unread : IsUnparsedAs (unescaped c.args.text.now) error =
    rest_unread c.args.text.now (string_bytes c.loop-rest.unescaped) c.in-Some.text.now error (read (goal.at.returns-in_err-after c).After-push_line-in-Some) c.in_err-after.ensures.value in
    grind (arith, common_steps)

pub loop-rest-preserved : goal.loop-rest-preserved
loop-rest-preserved c =
    next_read c.args.text.now (string_bytes c.loop-rest.unescaped) (string_bytes c.push.new.self) (string_bytes c.push_line-in-Some.new.line) c.in-Some.text.now
    (option_copied c.in_ok-after.after) (read (goal.at.loop-rest-preserved c).After-push_line-in-Some)
    (c.in_ok-push.ensures.bytes ∙ ap (λ (bytes : List ℕ). string_bytes c.loop-rest.unescaped ++ bytes) (encode_ascii 10 (lit< tt))) c.in_ok-after.ensures.value
