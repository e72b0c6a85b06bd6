use Rattle.std.proofs.Common.{◌≡◌, ◌+◌, ◌++◌, ℕ, List, take}
use Rattle.textarea_text.specs.Text.{lines_of}
use Rattle.textarea_screen_map.specs.LineRows.{AreRowsOf, ticks_after, ticks_of}
use Rattle.textarea_screen_map.proofs.layout.push_rows.Given as goal

abbrev pub invariant-loop-i : goal.invariant-loop-i
invariant-loop-i l =
    (l.count ≡ l.initial.count + l.i)
    × ((before : List (List ℕ)) → AreRowsOf l.wrapping before l.initial.rows.items → AreRowsOf l.wrapping (before ++ take l.i (lines_of l.lines)) l.rows.items)
    × (ticks_of l.rows.items ≡ ticks_of l.initial.rows.items ++ ticks_after l.initial.count l.i)
