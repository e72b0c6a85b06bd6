use Rattle.std.proofs.Common.{rules, ◌≡◌, ◌≢◌, ◌∙◌, ◌++◌, ℕ, List, Some, length, sym, ap}
use Rattle.std.specs.Prelude.{chars, encode_utf8, slice_get}
use Rattle.textarea_script_syntax.proofs.Escapes.{first_escaped, first_nothing, first_plain}
use Rattle.textarea_script_syntax.proofs.arguments.first_character.Goals as goal
use Rattle.textarea_script_syntax.proofs.arguments.first_character.Goals.{After-as_str-rest}

pub returns-in_err-first-clause-value : goal.returns-in_err-first-clause-value
returns-in_err-first-clause-value c =
    let none = first_nothing c.args.text.now (ap length (sym c.chars-characters.ensures.rest) ∙ c.in_err-first.ensures.steps.0.0) in
    rw c.from_residual.ensures none

-- the text is the first character and the rest
split : (c : After-as_str-rest) → c.args.text.now ≡ encode_utf8 c.in_ok-first.first ++ c.as_str-rest.result.now
split c = cc (c.in_ok-first.ensures.steps.0, c.chars-characters.ensures.rest, c.as_str-rest.ensures)

pub returns-then-first-eq92-clause-value : goal.returns-then-first-eq92-clause-value
returns-then-first-eq92-clause-value c =
    let is : c.args.text.now ≡ encode_utf8 92 ++ c.as_str-rest.result.now = cc (split (goal.at.returns-then-first-eq92-clause-value c).After-as_str-rest, c.if-first-eq92.true) in
    rw (first_escaped c.args.text.now c.as_str-rest.result.now is) c.escaped_character.ensures.value

pub returns-clause-value : goal.returns-clause-value
returns-clause-value c =
    let first : Some c.in_ok-first.first ≡ slice_get (chars c.args.text.now) 0 = c.in_ok-first.ensures.steps.2 ∙ ap (λ (t : List ℕ). slice_get (chars t) 0) c.chars-characters.ensures.rest in
    let other : c.in_ok-first.first ≢ 92 = search rules in
    first_plain c.args.text.now c.as_str-rest.result.now c.in_ok-first.first (split (goal.at.returns-clause-value c).After-as_str-rest) first other
