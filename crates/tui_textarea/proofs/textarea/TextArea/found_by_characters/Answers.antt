use Rattle.std.proofs.Common.{◌≡◌, IfOk, Option, subst}
use Rattle.textarea_text.specs.Text.{lines, lines_of}
use Rattle.textarea_text.specs.Place.{Place}
use Rattle.textarea_search.specs.Starts.{found_start}
use Rattle.tui_textarea.specs.State.{State}
use Rattle.tui_textarea.specs.Search.{starts_in}
use Rattle.tui_textarea.proofs.Searches.{target_in_text, search_is}
use Rattle.tui_textarea.proofs.textarea.TextArea.found_by_characters.Goals as goal

pub returns-clause-found : goal.returns-clause-found
returns-clause-found c =
    subst (λ (s : State). IfOk c.find_match.result (λ found. found ≡ found_start c.args.direction (starts_in s.pattern s.document.text) s.document.cursor c.args.match_cursor)) c.self.view_is
    (subst (λ (leads : Option Place). IfOk c.find_match.result (λ found. found ≡ leads))
    (search_is (found_start c.args.direction) c.self.inside.search c.lines-lines.result.now c.self.inside.document c.cursor-cursor.result c.args.match_cursor c.lines-lines.ensures.lines c.cursor-cursor.ensures.value)
    c.find_match.ensures.found.found)

pub returns-clause-place : goal.returns-clause-place
returns-clause-place c =
    let now = c.args.self.now in
    target_in_text c.find_match.result (found_start c.args.direction (starts_in now.pattern now.document.text) now.document.cursor c.args.match_cursor) c.lines-lines.result.now now.document.text
    (subst (λ (s : State). lines_of c.lines-lines.result.now ≡ lines s.document.text) c.self.view_is c.lines-lines.ensures.lines)
    (returns-clause-found c) c.find_match.ensures.found.within
