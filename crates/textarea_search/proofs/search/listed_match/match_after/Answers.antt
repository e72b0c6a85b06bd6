use Rattle.std.proofs.lemmas.Grind.{common_steps}
use Rattle.std.proofs.Common.{◌≡◌, ℕ, List, None, Option, Some, IfSome, IsCharBoundary, IsUtf8, ap, arith, length, sym}
use Rattle.std.proofs.lemmas.Str.{IsCharBoundary-start, chars-nil}
use Rattle.textarea_search.specs.Columns.{column_of_byte}
use Rattle.textarea_search.specs.ListedMatches.{IsMatchIn}
use Rattle.textarea_search.specs.declared.search.listed_match.ListedMatch.{ListedMatch}
use Rattle.textarea_search.proofs.search.listed_match.match_after.Goals as goal

-- the byte offset before the search with its column
abbrev known_of : Option ListedMatch → ℕ × ℕ
known_of None = (0, 0)
known_of (Some last) = (last.start, last.column)

known_place : (line : List ℕ) (before : Option ListedMatch) → IsUtf8 line → IfSome before (IsMatchIn line) →
    IsCharBoundary line (known_of before).0 × ((known_of before).1 ≡ column_of_byte line (known_of before).0)
known_place line None text place = (IsCharBoundary-start line text, sym (ap length chars-nil))
known_place line (Some last) text place = (place.starts, place.column)

pub column_from-requires-clause-known_boundary : goal.column_from-requires-clause-known_boundary
column_from-requires-clause-known_boundary c = grind (arith, common_steps, known_place c.args.line.now c.args.before c.utf8.line c.requires)

pub column_from-requires-clause-column : goal.column_from-requires-clause-column
column_from-requires-clause-column c = grind (arith, common_steps, known_place c.args.line.now c.args.before c.utf8.line c.requires)
