use Rattle.std.proofs.Common.{◌≡◌, None, Some, sym, ap, ◌∙◌, arith}
use Rattle.std.specs.List.{find}
use Rattle.regex.specs.Strings.{matcher_pattern}
use Rattle.textarea_search.specs.Spans.{columns_in}
use Rattle.textarea_search.specs.Starts.{along, bytes_at, found_start, is_ahead_in_line, starts_by}
use Rattle.textarea_search.proofs.StartLemmas.{bytes_of_line, found_here}
use Rattle.textarea_search.proofs.search.lines.found_start.Goals as goal

pub returns-in-Some-clause-found : goal.returns-in-Some-clause-found
returns-in-Some-clause-found c =
    let columns = columns_in (matcher_pattern c.args.matcher.now) in
    let line = c.index-lines-row.result in
    let bytes : c.deref.result.now ≡ bytes_at c.args.lines.now c.args.cursor.0 =
    c.deref.ensures ∙ sym (bytes_of_line c.args.lines.now c.args.cursor.0 line (omega arith) c.index-lines-row.is) in
    let found : find (is_ahead_in_line c.args.direction c.args.cursor.1 c.args.match_cursor) (along c.args.direction (columns (bytes_at c.args.lines.now c.args.cursor.0))) ≡ Some c.in-Some.start =
    rw (← bytes) (sym c.in-Some.ensures.found) in
    sym (found_here columns c.args.lines.now c.args.cursor.0 c.args.cursor.1 c.args.match_cursor (omega arith) c.args.direction c.in-Some.start found)

pub returns-clause-found : goal.returns-clause-found
returns-clause-found c =
    let tree = matcher_pattern c.args.matcher.now in
    let line = c.index-lines-row.result in
    let bytes : c.deref.result.now ≡ bytes_at c.args.lines.now c.args.cursor.0 =
    c.deref.ensures ∙ sym (bytes_of_line c.args.lines.now c.args.cursor.0 line (omega arith) c.index-lines-row.is) in
    let none : find (is_ahead_in_line c.args.direction c.args.cursor.1 c.args.match_cursor) (along c.args.direction (columns_in tree (bytes_at c.args.lines.now c.args.cursor.0))) ≡ None = rw (← bytes) (sym c.in_default.ensures.found) in
    c.start_beyond.ensures.found c.args.cursor.1 c.args.match_cursor (rw c.in_default.ensures.same none)
    ∙ ap (λ t. found_start c.args.direction (starts_by t 0 c.args.lines.now) c.args.cursor c.args.match_cursor) c.in_default.ensures.same
