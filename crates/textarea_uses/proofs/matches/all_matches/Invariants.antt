use Rattle.std.proofs.Common.{◌≡◌, ◌-◌, ◌+◌, cond, length}
use Rattle.textarea_text.specs.Place.{IsPlace, index_of}
use Rattle.tui_textarea.specs.Matches.{HasPassed, StaysAtStarts}
use Rattle.tui_textarea.specs.Search.{match_starts}
use Rattle.textarea_uses.proofs.matches.all_matches.Given as goal

-- the text stays, and the walk has passed the matches that are listed
abbrev pub invariant-steps : goal.invariant-steps
invariant-steps l =
    (l.area.document.text ≡ l.fn.area.document.text) × IsPlace l.area.document.text l.area.document.cursor
    × (StaysAtStarts l.fn.area → StaysAtStarts l.area × HasPassed (match_starts l.fn.area) l.places.items l.goes_on l.area)

-- the cursor goes on in the text
abbrev pub decreases-steps : goal.decreases-steps
decreases-steps l = cond l.goes_on (length l.fn.area.document.text - index_of l.fn.area.document.text l.area.document.cursor + 1) 0
