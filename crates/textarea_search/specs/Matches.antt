-- The matches of a pattern in one line.
use Rattle.std.specs.Prelude.{ℕ, List, [], map}
use Rattle.std.specs.Option.{option_map_or}
use Rattle.std.specs.Str.{chars}
use Rattle.regex_syntax.specs.Grammar.{read}
use Rattle.regex.specs.Patterns.{default_config, span, find_all_str}
use Rattle.textarea_search.specs.Columns.{column_of_byte}

-- For each match that `regex` lists for the line, the byte offsets of its start and its end
-- (exclusive). The list is `find_all_str`, in which each match is the leftmost one after the match
-- before, for the pattern that the grammar reads under the default options. A text without a
-- reading has no matches, and it is never set as the pattern.
unfoldable pub match_spans : List ℕ → List ℕ → List (ℕ × ℕ)
match_spans pattern line =
    option_map_or (λ (found, _). map span (find_all_str found.value line)) (read default_config (chars pattern)) []

-- the column at which each match starts
abbrev pub match_columns : List ℕ → List ℕ → List ℕ
match_columns pattern line = map (λ s. column_of_byte line s.0) (match_spans pattern line)
