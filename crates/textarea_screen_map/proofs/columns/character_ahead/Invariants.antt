use Rattle.std.proofs.Common.{◌≡◌, ℕ, ◌<◌, ◌≤◌}
use Rattle.std.specs.Str.{chars}
use Rattle.std.specs.Str.Iter.{chars_rest}
use Rattle.textarea_screen_map.specs.VisualRows.{column_at}
use Rattle.textarea_screen_map.proofs.MarkLemmas.{IsWalked}
use Rattle.textarea_screen_map.proofs.columns.character_ahead.Given as goal

-- the characters so far are before the column, and `first` is the first position at `at`
abbrev pub invariant-loop-c : goal.invariant-loop-c
invariant-loop-c l = record {
  walked : IsWalked l.tab_len l.text (chars_rest l.c-iterator) l.index l.at;
  before : (k : ℕ) → k < l.index → column_at l.tab_len (chars l.text) k < l.column;
  reached : l.at ≤ l.column;
  first : l.first ≤ l.index;
  first_at : column_at l.tab_len (chars l.text) l.first ≡ l.at;
  before_first : (k : ℕ) → k < l.first → column_at l.tab_len (chars l.text) k < l.at;
}
