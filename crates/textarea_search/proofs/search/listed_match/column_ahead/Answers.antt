use Rattle.std.proofs.Common.{length}
use Rattle.std.specs.Str.{chars}
use Rattle.regex.specs.Strings.{matcher_pattern}
use Rattle.textarea_search.specs.Spans.{columns_in}
use Rattle.textarea_search.proofs.AscendingLemmas.{found_within}
use Rattle.textarea_search.proofs.FromMatchLemmas.{columns_within}
use Rattle.textarea_search.proofs.search.listed_match.column_ahead.Goals as goal

pub returns-in-Forward-clause-within : goal.returns-in-Forward-clause-within
returns-in-Forward-clause-within c =
    let tree = matcher_pattern c.args.matcher.now in
    let line = c.args.line.now in
    found_within (length (chars line)) c.args.direction c.args.column c.args.at_column (columns_in tree line) c.first_from.result (columns_within tree line c.utf8.line) (rw c.in-Forward.is c.first_from.ensures.found)

pub returns-in-Back-clause-within : goal.returns-in-Back-clause-within
returns-in-Back-clause-within c =
    let tree = matcher_pattern c.args.matcher.now in
    let line = c.args.line.now in
    found_within (length (chars line)) c.args.direction c.args.column c.args.at_column (columns_in tree line) c.last_from.result (columns_within tree line c.utf8.line) (rw c.in-Back.is c.last_from.ensures.found)
