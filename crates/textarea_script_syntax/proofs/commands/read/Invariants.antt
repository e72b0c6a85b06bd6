use Rattle.std.proofs.Common.{◌≡◌, Some, vec_len, length, map, take}
use Rattle.textarea_script_syntax.specs.Script.{lines_of_script, filled_lines, meaning_of, meanings_of_lines}
use Rattle.textarea_script_syntax.proofs.commands.read.Given as goal

abbrev pub invariant-loop-index : goal.invariant-loop-index
invariant-loop-index l = record {
  count : vec_len l.commands ≡ filled_lines (take (length l.yielded) (lines_of_script l.fn.script));
  means : map (λ command. Some (meaning_of command.content)) l.commands.items ≡ meanings_of_lines (take (length l.yielded) (lines_of_script l.fn.script));
}
