use Rattle.std.proofs.Common.{◌≡◌, ◌≤◌, length, option_map, string_bytes}
use denote.Text.{Utf8}
use denote.Shadow.{shadow}
use Rattle.textarea_script_syntax.specs.Escapes.{in_front, unescaped_lines}
use Rattle.textarea_script_syntax.proofs.arguments.push_line.Given as goal

abbrev pub invariant-loop-front : goal.invariant-loop-front
invariant-loop-front l =
    shadow (Utf8 l.rest) × (length l.rest ≤ length l.fn.text)
    × (option_map (λ lines. in_front (string_bytes l.initial.line) lines) (unescaped_lines l.fn.text) ≡ option_map (λ lines. in_front (string_bytes l.line) lines) (unescaped_lines l.rest))

abbrev pub decreases-loop-front : goal.decreases-loop-front
decreases-loop-front l = length l.rest
