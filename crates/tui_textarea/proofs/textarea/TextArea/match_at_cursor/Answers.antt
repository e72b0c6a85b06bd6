use Rattle.std.proofs.Common.{◌≡◌, ℕ, IfOk, List, subst}
use Rattle.textarea_text.specs.Text.{lines_of}
use Rattle.textarea_text.specs.Place.{Place}
use Rattle.textarea_data.specs.declared.range.AtomicRange.{AtomicRange}
use Rattle.tui_textarea.specs.Replacing.{match_at, match_at_cursor}
use Rattle.tui_textarea.specs.State.{State}
use Rattle.tui_textarea.proofs.textarea.TextArea.match_at_cursor.Goals as goal

pub returns-clause-found : goal.returns-clause-found
returns-clause-found c =
    let document = c.self.inside.document in
    let pattern = c.self.inside.search in
    let unit = c.self.inside.settings.cursor_unit in
    let found = c.match_at.result in
    subst (λ (s : State). IfOk found (λ found. found ≡ match_at_cursor s)) c.self.view_is
    (subst (λ (rows : List (List ℕ)). IfOk found (λ found. found ≡ match_at unit document.ranges pattern rows document.cursor)) c.lines-lines.ensures.lines
    (subst (λ (ranges : List AtomicRange). IfOk found (λ found. found ≡ match_at unit ranges pattern (lines_of c.lines-lines.result.now) document.cursor)) c.ranges-ranges.ensures.value
    (subst (λ (place : Place). IfOk found (λ found. found ≡ match_at unit c.ranges-ranges.result.now pattern (lines_of c.lines-lines.result.now) place)) c.cursor-cursor.ensures.value
    c.match_at.ensures.found)))
