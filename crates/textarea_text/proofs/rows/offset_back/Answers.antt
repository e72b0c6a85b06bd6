use Rattle.std.proofs.Common.{◌≡◌, ◌+◌, ◌-◌, arith}
use Rattle.std.specs.Str.{chars}
use Rattle.textarea_text.proofs.Columns.{offset_in, offset_less}
use Rattle.textarea_text.proofs.rows.offset_back.Goals as goal
use Rattle.textarea_text.proofs.rows.offset_back.Goals.{After-len_utf8-bytes}

-- the bytes before the character that is passed
less : (c : After-len_utf8-bytes) → offset_in (chars c.args.line.now) (c.walking.at - 1) + c.len_utf8-bytes.result ≡ c.walking.bytes
less c =
    omega (arith, offset_less (chars c.args.line.now) c.walking.at c.character_before.result (omega arith) c.character_before.ensures, c.len_utf8-bytes.ensures.len, c.walking.invariant.2)

pub overflow_sub-bytes : goal.overflow_sub-bytes
overflow_sub-bytes c = omega (arith, less (goal.at.overflow_sub-bytes c).After-len_utf8-bytes)

pub walking-preserved : goal.walking-preserved
walking-preserved c =
    (omega arith, omega (arith, c.walking.invariant.1), omega (arith, less (goal.at.walking-preserved c).After-len_utf8-bytes))
