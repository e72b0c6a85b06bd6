use Rattle.std.proofs.Common.{◌≤◌, take}
use Rattle.textarea_text.specs.Size.{size_of}
use Rattle.textarea_text.specs.Text.{lines_of}
use Rattle.textarea_screen_map.specs.Map.{IsRowCount}
use Rattle.textarea_screen_map.proofs.layout.rows_in.Given as goal

-- the rows so far are no more than the bytes and the lines so far
abbrev pub invariant-loop-line : goal.invariant-loop-line
invariant-loop-line l =
    IsRowCount (record { mode = l.mode; width = l.width; tab_len = l.tab_len }) (take l.line-index (lines_of l.lines)) l.total × (l.total ≤ size_of (take l.line-index l.lines))
