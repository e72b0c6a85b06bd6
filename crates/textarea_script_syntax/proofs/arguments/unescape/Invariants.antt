use Rattle.std.proofs.Common.{◌≡◌, ℕ, ◌+◌, List, Option, Some, None, Bor, length, string_bytes}
use Rattle.std.specs.Prelude.{option_copied}
use Rattle.textarea_script_syntax.specs.Escapes.{unescaped}
use Rattle.textarea_script_syntax.proofs.Tokens.{with_rest}
use Rattle.textarea_script_syntax.proofs.arguments.unescape.Given as goal

abbrev left : Option (Bor (List ℕ)) → ℕ
left None = 0
left (Some text) = length text.now + 1

-- the text so far, and after a line feed the rest
abbrev pub invariant-loop-rest : goal.invariant-loop-rest
invariant-loop-rest l = unescaped l.fn.text ≡ with_rest (string_bytes l.unescaped) (option_copied l.rest)

abbrev pub decreases-loop-rest : goal.decreases-loop-rest
decreases-loop-rest l = left l.rest
