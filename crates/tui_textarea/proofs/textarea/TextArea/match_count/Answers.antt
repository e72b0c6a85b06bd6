use Rattle.std.proofs.Common.{◌≡◌, ◌∙◌, IfOk, List, ap, arith, length, subst, sym}
use Rattle.textarea_data.specs.declared.cursor.CursorUnit.{CursorUnit}
use Rattle.textarea_data.specs.declared.cursor.CursorUnit.TheVariants as unit
use Rattle.textarea_text.specs.Place.{Place}
use Rattle.tui_textarea.specs.State.{State}
use Rattle.tui_textarea.specs.Search.{match_count, unit_starts}
use Rattle.tui_textarea.proofs.Searches.{starts_are}
use Rattle.tui_textarea.proofs.textarea.TextArea.match_count.Goals as goal

pub returns-in-Character-clause-count : goal.returns-in-Character-clause-count
returns-in-Character-clause-count c =
    subst (λ (s : State). IfOk c.count.result (λ count. count ≡ match_count s)) c.self.view_is
    (subst (λ (found : CursorUnit). IfOk c.count.result (λ count. count ≡ length (unit_starts found c.self.inside.search c.self.inside.document.text))) (sym c.in-Character.is)
    (subst (λ (starts : List Place). IfOk c.count.result (λ count. count ≡ length starts))
    (starts_are c.self.inside.search c.lines.result.now c.self.inside.document.text c.lines.ensures.lines)
    c.count.ensures.count))

pub returns-in_ok-starts-in-Cluster-clause-count : goal.returns-in_ok-starts-in-Cluster-clause-count
returns-in_ok-starts-in-Cluster-clause-count c =
    let now = c.args.self.now in
    let by : unit.Cluster ≡ now.settings.cursor_unit = sym c.in-Cluster.is ∙ ap (λ (s : State). s.settings.cursor_unit) c.self.view_is in
    let starts = c.in_ok-starts-in-Cluster.ensures.found ∙ ap (λ (found : CursorUnit). unit_starts found now.pattern now.document.text) by in
    omega (arith, c.len.ensures, c.in_ok-starts-in-Cluster.starts.ok, ap length starts)
