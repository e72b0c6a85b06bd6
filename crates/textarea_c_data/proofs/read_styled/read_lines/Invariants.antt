use Rattle.std.proofs.Common.{◌≡◌, ◌++◌, drop, map, option_map}
use Rattle.textarea_screen.specs.Text.{line_view}
use Rattle.textarea_c_data.specs.Spans.{lines_read}
use Rattle.textarea_c_data.proofs.read_styled.read_lines.Given as goal

-- the lines so far, and those that are left, are all of them
abbrev pub invariant-loop-line : goal.invariant-loop-line
invariant-loop-line l =
    option_map (λ rest. map line_view l.read.items ++ rest) (lines_read l.text l.from l.spans l.first (drop l.line-index l.lines))
    ≡ lines_read l.text 0 l.spans 0 l.lines
