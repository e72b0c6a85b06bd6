use Rattle.std.proofs.Common.{◌≡◌, ◌+◌, length}
use Rattle.std.specs.Fmt.{char_count}
use Rattle.textarea_text.proofs.rows.column_count.Given as goal

abbrev pub invariant-counting : goal.invariant-counting
invariant-counting l = l.count + char_count l.rest ≡ char_count l.line

abbrev pub decreases-counting : goal.decreases-counting
decreases-counting l = length l.rest
