use Rattle.std.proofs.Common.{arith, rules, ◌∙◌, ◌≤◌, ◌∷◌, ◌++◌, ℕ, List, Some, None, length, length-append, option_map, string_bytes, ap, sym, append_assoc, lit<}
use Rattle.std.proofs.lemmas.Str.Pattern.{strip_prefix_char}
use Rattle.std.specs.Prelude.{encode_utf8}
use Rattle.textarea_script_syntax.specs.Escapes.{in_front, unescaped_lines}
use Rattle.textarea_script_syntax.proofs.Fronts.{line_broken, line_escaped, line_joined, line_unread}
use Rattle.textarea_script_syntax.proofs.Tokens.{line_grown}
use Rattle.textarea_script_syntax.proofs.arguments.push_line.Goals as goal
use Rattle.textarea_util.proofs.Options.{none_of_map}

pub returns-in-Some-strip_prefix-clause-value : goal.returns-in-Some-strip_prefix-clause-value
returns-in-Some-strip_prefix-clause-value c =
    let line = string_bytes c.loop-front.line in
    let before : List (List ℕ) → List (List ℕ) = λ lines. in_front line lines in
    let rest = c.loop-front.rest.now in
    let front = c.in-Some.front.now in
    let after = c.in-Some-strip_prefix.after.now in
    let split_is = c.in-Some.ensures in
    let broken = strip_prefix_char 110 c.in-Some.escaped.now (Some c.in-Some-strip_prefix.after) c.in-Some-strip_prefix.ensures.cases (lit< tt) in
    c.loop-front.invariant.2
    ∙ ap (option_map before) (line_broken rest front c.in-Some.escaped.now after c.loop-front.invariant.0 split_is.0 split_is.1 broken)
    ∙ line_joined line front (unescaped_lines after)
    ∙ ap (λ (text : List ℕ). option_map (λ lines. text ∷ lines) (unescaped_lines after)) (sym c.in_ok-push_str.ensures.bytes)

pub returns-in_default-escaped_character-clause-value : goal.returns-in_default-escaped_character-clause-value
returns-in_default-escaped_character-clause-value c =
    let before : List (List ℕ) → List (List ℕ) = λ lines. in_front (string_bytes c.loop-front.line) lines in
    let rest = c.loop-front.rest.now in
    let front = c.in-Some.front.now in
    let split_is = c.in-Some.ensures in
    none_of_map (λ lines. in_front (string_bytes c.args.line.now) lines) (unescaped_lines c.args.text.now)
    (c.loop-front.invariant.2
    ∙ ap (option_map before) (line_unread rest front c.in-Some.escaped.now c.loop-front.invariant.0 split_is.0 split_is.1 c.in_default-escaped_character.ensures.value))

pub loop-front-preserved : goal.loop-front-preserved
loop-front-preserved c =
    let line = string_bytes c.loop-front.line in
    let before : List (List ℕ) → List (List ℕ) = λ lines. in_front line lines in
    let rest = c.loop-front.rest.now in
    let front = c.in-Some.front.now in
    let character = encode_utf8 c.in-Some-escaped_character.c in
    let after = c.in-Some-escaped_character.after.now in
    let split_is = c.in-Some.ensures in
    let other = strip_prefix_char 110 c.in-Some.escaped.now None c.in_default-strip_prefix.ensures.cases (lit< tt) in
    let grown = sym (append_assoc line front character) ∙ ap (λ (text : List ℕ). text ++ character) (sym c.in_ok-push_str.ensures.bytes) ∙ sym c.in_ok-push.ensures.bytes in
    let left : length after ≤ length c.args.text.now = omega (arith, c.loop-front.invariant.1, c.in-Some-escaped_character.ensures.shorter, ap length split_is.0, length-append front (92 ∷ c.in-Some.escaped.now)) in
    let more = c.loop-front.invariant.2
    ∙ ap (option_map before) (line_escaped rest front c.in-Some.escaped.now after c.in-Some-escaped_character.c c.loop-front.invariant.0 split_is.0 split_is.1 other c.in-Some-escaped_character.ensures.value)
    ∙ line_grown line (front ++ character) (unescaped_lines after)
    ∙ ap (λ (text : List ℕ). option_map (λ lines. in_front text lines) (unescaped_lines after)) grown in
    (search rules, left, more)

pub returns-clause-value : goal.returns-clause-value
returns-clause-value c = c.loop-front.invariant.2 ∙ c.in_ok-push_plain.ensures
