use Rattle.std.proofs.Common.{◌≡◌, ℕ, ◌+◌, ◌<◌, ◌++◌, List, Option, Some, None, Bor, length, map, option_map, string_bytes, vec_len}
use Rattle.std.specs.Prelude.{option_copied}
use Rattle.textarea_script_syntax.specs.Escapes.{lines_after_escape, unescaped_lines}
use Rattle.textarea_script_syntax.proofs.arguments.unescaped_lines.Given as goal

abbrev left : Option (Bor (List ℕ)) → ℕ
left None = 0
left (Some text) = length text.now + 1

abbrev pub invariant-loop-rest : goal.invariant-loop-rest
invariant-loop-rest l =
    (0 < vec_len l.lines + left l.rest)
    × (unescaped_lines l.fn.text ≡ option_map (λ more. map string_bytes l.lines.items ++ more) (lines_after_escape (option_copied l.rest)))

abbrev pub decreases-loop-rest : goal.decreases-loop-rest
decreases-loop-rest l = left l.rest
