-- The matches in the lines of a text, with their positions.
use Rattle.std.specs.Prelude.{ℕ, ◌+◌, List, [], ◌∷◌, ◌++◌, map, length}
use Rattle.std.specs.Str.{chars}
use Rattle.textarea_search.specs.declared.search.text_matches.TextMatch.{TextMatch}

-- the match between two columns of the row, whose line begins after `before` symbols
abbrev pub text_match : ℕ → ℕ → ℕ × ℕ → TextMatch
text_match row before columns = record {
  row = row;
  columns = columns;
  indices = (before + columns.0, before + columns.1);
}

-- The matches in these lines, given the columns of those in each line. The first line has this row,
-- and begins after `before` symbols, which are characters and breaks between lines.
abbrev pub matches_from : (List ℕ → List (ℕ × ℕ)) → ℕ → ℕ → List (List ℕ) → List TextMatch
matches_from pairs row before [] = []
matches_from pairs row before (line ∷ lines) =
    map (text_match row before) (pairs line) ++ matches_from pairs (row + 1) (before + length (chars line) + 1) lines
