use denote.Shadow.{shadow}
use denote.Text.{Utf8}
use Rattle.std.proofs.Common.{ℕ, List, ◌+◌, ◌*◌, ◌-◌, ◌≤◌}
use Rattle.textarea_paint.specs.Columns.{char_columns}
use Rattle.textarea_paint.specs.Units.{IsTail}
use Rattle.textarea_paint.proofs.paint.units.after_joined.Given as goal

abbrev pub invariant-joined : goal.invariant-joined
invariant-joined l = record {
  rest_text : shadow (Utf8 l.rest);
  few : l.count ≤ 16;
  bound : l.columns ≤ 8 + 2 * l.count;
  tail : (end : List ℕ) (total : ℕ) → IsTail l.first l.columns l.rest end total → IsTail l.first (char_columns l.first) l.text end total;
}

abbrev pub decreases-joined : goal.decreases-joined
decreases-joined l = 16 - l.count
