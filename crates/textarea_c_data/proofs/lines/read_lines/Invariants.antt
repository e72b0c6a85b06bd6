use Rattle.std.proofs.Common.{◌≡◌, ◌++◌, drop, option_map}
use Rattle.textarea_text.specs.Text.{lines_of}
use Rattle.textarea_c_data.specs.Split.{lines_between}
use Rattle.textarea_c_data.proofs.lines.read_lines.Given as goal

-- the lines so far, and those that are left, are all of them
abbrev pub invariant-loop-end : goal.invariant-loop-end
invariant-loop-end l =
    option_map (λ rest. lines_of l.lines.items ++ rest) (lines_between l.text l.start (drop l.end-index l.ends)) ≡ lines_between l.text 0 l.ends
