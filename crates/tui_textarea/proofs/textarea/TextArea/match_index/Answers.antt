use Rattle.std.proofs.Common.{◌≡◌, ◌∙◌, IfOk, List, ap, subst, sym}
use Rattle.textarea_data.specs.declared.cursor.CursorUnit.{CursorUnit}
use Rattle.textarea_data.specs.declared.cursor.CursorUnit.TheVariants as unit
use Rattle.textarea_text.specs.Place.{Place}
use Rattle.textarea_search.specs.Counts.{index_at}
use Rattle.tui_textarea.specs.State.{State}
use Rattle.tui_textarea.specs.Search.{match_index, starts_in, unit_starts}
use Rattle.tui_textarea.proofs.Searches.{starts_are}
use Rattle.tui_textarea.proofs.textarea.TextArea.match_index.Goals as goal

pub returns-in-Character-clause-index : goal.returns-in-Character-clause-index
returns-in-Character-clause-index c =
    subst (λ (s : State). IfOk c.index.result (λ index. index ≡ match_index s)) c.self.view_is
    (subst (λ (found : CursorUnit). IfOk c.index.result (λ index. index ≡ index_at c.self.inside.document.cursor (unit_starts found c.self.inside.search c.self.inside.document.text))) (sym c.in-Character.is)
    (subst (λ (cursor : Place). IfOk c.index.result (λ index. index ≡ index_at cursor (starts_in c.self.inside.search c.self.inside.document.text))) c.cursor-cursor.ensures.value
    (subst (λ (starts : List Place). IfOk c.index.result (λ index. index ≡ index_at c.cursor-cursor.result starts))
    (starts_are c.self.inside.search c.lines.result.now c.self.inside.document.text c.lines.ensures.lines)
    c.index.ensures.index)))

pub returns-in_ok-starts-in-Cluster-clause-index : goal.returns-in_ok-starts-in-Cluster-clause-index
returns-in_ok-starts-in-Cluster-clause-index c =
    let now = c.args.self.now in
    let by : unit.Cluster ≡ now.settings.cursor_unit = sym c.in-Cluster.is ∙ ap (λ (s : State). s.settings.cursor_unit) c.self.view_is in
    let starts = c.in_ok-starts-in-Cluster.ensures.found ∙ ap (λ (found : CursorUnit). unit_starts found now.pattern now.document.text) by in
    c.index_at.ensures
    ∙ ap (λ (some : List Place). index_at c.cursor-cursor.result some) (c.as_slice.ensures.value ∙ starts)
    ∙ ap (λ (place : Place). index_at place (unit_starts now.settings.cursor_unit now.pattern now.document.text)) (c.cursor-cursor.ensures.value ∙ ap (λ (s : State). s.document.cursor) c.self.view_is)
