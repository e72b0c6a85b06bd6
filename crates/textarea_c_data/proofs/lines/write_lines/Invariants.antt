use Rattle.std.proofs.Common.{◌≡◌, ◌+◌, ◌≤◌, drop, length}
use Rattle.std.specs.List.{concat}
use Rattle.textarea_text.specs.Size.{size_of}
use Rattle.textarea_text.specs.Text.{lines_of}
use Rattle.textarea_util.specs.Limit.{size_limit}
use Rattle.textarea_c_data.specs.Copied.{ends_of, copied_over, written_at}
use Rattle.textarea_c_data.specs.Lines.{encoded_lines}
use Rattle.textarea_c_data.proofs.lines.write_lines.Given as goal

-- what is left to write leads to the same slices
abbrev pub invariant-loop-row : goal.invariant-loop-row
invariant-loop-row l = record {
  size : l.used + size_of (drop l.row l.lines) ≤ size_limit;
  needed : l.used + length (concat (encoded_lines (lines_of (drop l.row l.lines)))) ≡ length (concat (encoded_lines (lines_of l.lines)));
  out : written_at l.used l.out (concat (encoded_lines (lines_of (drop l.row l.lines)))) ≡ copied_over l.initial.out (concat (encoded_lines (lines_of l.lines)));
  ends : written_at l.row l.ends (ends_of l.used (encoded_lines (lines_of (drop l.row l.lines)))) ≡ copied_over l.initial.ends (ends_of 0 (encoded_lines (lines_of l.lines)));
}
