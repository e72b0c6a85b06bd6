use Rattle.std.proofs.Common.{◌≡◌, ◌+◌, ◌-◌, ◌≤◌, ◌++◌, ℕ, List, length, take}
use Rattle.textarea_text.specs.Text.{lines_of}
use Rattle.textarea_blocks.specs.Blocks.{all_rows}
use Rattle.textarea_screen_map.specs.LineRows.{AreRowsOf, ticks_after, ticks_of}
use Rattle.textarea_screen_map.proofs.wrapped_blocks.push_lines.Given as goal

-- the lines so far are wrapped
abbrev pub invariant-wraps : goal.invariant-wraps
invariant-wraps l =
    (l.from ≤ length l.lines)
    × (l.count ≡ l.initial.count + l.from)
    × ((before : List (List ℕ)) → AreRowsOf l.wrapping before (all_rows l.initial.blocks.blocks) → AreRowsOf l.wrapping (before ++ lines_of (take l.from l.lines)) (all_rows l.blocks.blocks))
    × (ticks_of (all_rows l.blocks.blocks) ≡ ticks_of (all_rows l.initial.blocks.blocks) ++ ticks_after l.initial.count l.from)

abbrev pub decreases-wraps : goal.decreases-wraps
decreases-wraps l = length l.lines - l.from
