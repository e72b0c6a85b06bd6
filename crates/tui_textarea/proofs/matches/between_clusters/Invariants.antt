use Rattle.std.proofs.Common.{◌≡◌, ◌≤◌, ◌-◌, ◌++◌, drop, encode_utf8_all, length, take}
use Rattle.std.specs.Prelude.{filter}
use Rattle.textarea_text.specs.Place.{line_of}
use Rattle.textarea_text.specs.Text.{lines_of}
use Rattle.tui_textarea.specs.WholeMatches.{cuts_no_cluster}
use Rattle.tui_textarea.proofs.matches.between_clusters.Given as goal

-- a column of the row's line is known with its byte offset
abbrev pub invariant-loop-found : goal.invariant-loop-found
invariant-loop-found l =
    (l.first_row ≤ l.row)
    × (l.known.0 ≤ length (line_of (lines_of l.lines) (l.row - l.first_row)))
    × (l.known.1 ≡ length (encode_utf8_all (take l.known.0 (line_of (lines_of l.lines) (l.row - l.first_row)))))
    × (l.kept.items ++ filter (cuts_no_cluster l.first_row (lines_of l.lines)) (drop l.found-index l.matches) ≡ filter (cuts_no_cluster l.first_row (lines_of l.lines)) l.matches)
