use Rattle.std.proofs.Common.{◌≡◌, ℕ, IfOk, List, subst}
use Rattle.textarea_text.specs.Text.{lines_of}
use Rattle.textarea_data.specs.declared.range.AtomicRange.{AtomicRange}
use Rattle.tui_textarea.specs.Replacing.{replaceable, replaceable_in}
use Rattle.tui_textarea.specs.State.{State}
use Rattle.tui_textarea.proofs.textarea.TextArea.replaceable.Goals as goal

pub returns-clause-found : goal.returns-clause-found
returns-clause-found c =
    let pattern = c.self.inside.search in
    let found = c.replaceable_in.result in
    subst (λ (s : State). IfOk found (λ indices. indices.items ≡ replaceable s)) c.self.view_is
    (subst (λ (rows : List (List ℕ)). IfOk found (λ indices. indices.items ≡ replaceable_in c.self.inside.settings.cursor_unit c.self.inside.document.ranges pattern rows)) c.lines-lines.ensures.lines
    (subst (λ (ranges : List AtomicRange). IfOk found (λ indices. indices.items ≡ replaceable_in c.self.inside.settings.cursor_unit ranges pattern (lines_of c.lines-lines.result.now))) c.ranges-ranges.ensures.value
    c.replaceable_in.ensures.found))
