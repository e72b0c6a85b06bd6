use Rattle.std.proofs.Common.{◌≡◌, ℕ, ◌+◌, ◌-◌, ◌*◌, ◌<◌, ◌≤◌, ◌++◌, get_or, length, map, take}
use Rattle.textarea_wrap.specs.Prelude.{range_with_len, IsCharBoundary, chars, mark_at}
use Rattle.textarea_wrap.proofs.wrap.marks.push_marks_from.Given as goal

-- the marks so far, and the last one's offset with its column; later rows begin at or after it
abbrev pub invariant-loop-index : goal.invariant-loop-index
invariant-loop-index l = record {
  items : l.rows.items ≡ take (length l.fn.rows.items - l.first) l.fn.rows.items ++ map (mark_at l.line (take (length l.fn.rows.items - l.first) l.fn.rows.items)) (range_with_len 0 l.index);
  column : l.column ≡ length (chars (take l.from l.line));
  boundary : IsCharBoundary l.line l.from;
  ordered : (j : ℕ) → 8 * l.index ≤ j + 1 → j < length (take (length l.fn.rows.items - l.first) l.fn.rows.items) → l.from ≤ (get_or (take (length l.fn.rows.items - l.first) l.fn.rows.items) j (0, 0)).0;
}
