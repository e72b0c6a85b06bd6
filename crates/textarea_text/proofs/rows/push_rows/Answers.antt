use Rattle.std.proofs.Common.{◌∙◌, ◌++◌, ap, rules, option_to_list, string_bytes}
use Rattle.textarea_text.specs.Prelude.{chars, characters_of, lines_of}
use Rattle.textarea_text.proofs.Prelude.{IsUtf8-string_bytes}
use Rattle.textarea_text.proofs.Columns.{chars-push_str}
use Rattle.textarea_text.proofs.StringRows.{rows_copied, rows_done}
use Rattle.textarea_text.proofs.rows.push_rows.Goals as goal

pub returns-clause-rows : goal.returns-clause-rows
returns-clause-rows c =
    let rows = c.pop.new.self.items in
    let all = c.extend_from_slice.new.self.items in
    let last = c.unwrap-last.result in
    let longer = c.push_str.new.self in
    let copied = c.in_ok-extend_from_slice.ensures.items in
    let is = chars-push_str (string_bytes last) c.args.tail.now (string_bytes longer) (IsUtf8-string_bytes last) c.utf8.tail (IsUtf8-string_bytes longer) c.in_ok-push_str.ensures.bytes in
    let done = rows_done all rows last longer (chars c.args.head.now) (chars c.args.first.now) (chars c.args.tail.now) (characters_of c.in_ok-line.line) (lines_of c.args.rest.now)
    (rows_copied _ _ all _ copied.0 _ c.requires.none c.in_ok-push.ensures.items copied.1 copied.2)
    (c.pop.ensures.items ∙ ap (λ o. rows ++ option_to_list o) c.unwrap-last.ensures) c.in_ok-line.ensures is in
    search (rules, done)
