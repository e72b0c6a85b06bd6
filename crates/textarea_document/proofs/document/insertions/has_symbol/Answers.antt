use Rattle.std.proofs.Common.{◌≡◌, ◌≢◌, length, arith}
use Rattle.textarea_text.specs.Text.{text_of}
use Rattle.textarea_text.proofs.EmptyTexts.{text_of-many}
use Rattle.textarea_document.proofs.Inserts.{filled_one, filled_some}
use Rattle.textarea_document.proofs.document.insertions.has_symbol.Goals as goal

pub returns-in-len1 : goal.returns-in-len1
returns-in-len1 c =
    let one : length c.args.fragment_lines.now ≡ 1 = omega (arith, c.in-len1.len_at_least, c.in-len1.len_below) in
    filled_one c.args.fragment_lines.now c.line-item.result c.is_empty.result one c.line-item.is c.is_empty.ensures

pub returns-in_default : goal.returns-in_default
returns-in_default c =
    let apart : length c.args.fragment_lines.now ≢ 1 = omega arith in
    filled_some (text_of c.args.fragment_lines.now) (text_of-many c.args.fragment_lines.now apart (omega arith))
