use Rattle.std.proofs.Common.{◌≡◌, ◌-◌, ◌≤◌}
use Rattle.std.specs.Str.{chars}
use Rattle.textarea_text.proofs.Columns.{offset_in}
use Rattle.textarea_text.proofs.rows.offset_back.Given as goal

abbrev pub invariant-walking : goal.invariant-walking
invariant-walking l =
    (l.column ≤ l.at) × (l.at ≤ l.from) × (l.bytes ≡ offset_in (chars l.line) l.at)

abbrev pub decreases-walking : goal.decreases-walking
decreases-walking l = l.at - l.column
