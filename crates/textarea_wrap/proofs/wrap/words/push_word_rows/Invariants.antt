use Rattle.std.proofs.Common.{◌≡◌, ◌+◌, ◌*◌, ◌≤◌, length, map, drop}
use Rattle.textarea_wrap.specs.Prelude.{concat, IsWordWalk}
use Rattle.textarea_wrap.proofs.wrap.words.push_word_rows.Given as goal

abbrev pub invariant-loop-i : goal.invariant-loop-i
invariant-loop-i l = record {
  walk : IsWordWalk l.tab_len l.width (map (λ unit. unit.now) l.units) l.fn.rows.items l.rows.items (map (λ unit. unit.now) (drop l.i l.units)) l.row.start l.row.end l.row.column;
  bytes : l.row.end + length (concat (map (λ unit. unit.now) (drop l.i l.units))) ≡ length (concat (map (λ unit. unit.now) l.units));
  narrow : l.row.column + 255 * length (concat (map (λ unit. unit.now) (drop l.i l.units))) ≤ 255 * length (concat (map (λ unit. unit.now) l.units));
}
