use Rattle.std.proofs.Common.{arith, string_bytes}
use Rattle.textarea_text.proofs.Prelude.{common_steps, IsUtf8-string_bytes}
use Rattle.textarea_text.proofs.Columns.{chars-push_str}
use Rattle.textarea_text.proofs.rows.put_together.Goals as goal

pub returns : goal.returns
returns c =
    let line = IsUtf8-string_bytes c.in_ok-line.line in
    let longer = IsUtf8-string_bytes c.push_str.new.self in
    let pushed = chars-push_str (string_bytes c.in_ok-line.line) c.args.back.now (string_bytes c.push_str.new.self) line c.utf8.back longer c.in_ok-push_str.ensures.bytes in
    grind (arith, common_steps)
