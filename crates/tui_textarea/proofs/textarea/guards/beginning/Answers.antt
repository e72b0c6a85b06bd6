use Rattle.std.proofs.Common.{◌≡◌, IfOk, List, length, arith, subst}
use Rattle.std.specs.Str.{chars}
use Rattle.textarea_clusters.proofs.StopLemmas.{edge_back_within}
use Rattle.textarea_text.specs.Text.{Symbol, text_of}
use Rattle.tui_textarea.proofs.Fitting.{beginning_is, is_filled}
use Rattle.tui_textarea.proofs.textarea.guards.beginning.Goals as goal

pub between-requires-clause-to : goal.between-requires-clause-to
between-requires-clause-to c =
    (c.ahead-row.ensures.is_place.0, omega (arith, c.edge_back-end.ensures, edge_back_within (chars c.line_of.result.now) c.ahead-row.result.1, c.ahead-row.ensures.is_place.1))

pub returns : goal.returns
returns c =
    let lines = c.args.fragment_lines.now in
    let filled = is_filled (length lines) c.is_empty.result c.is_empty.ensures c.if-is_empty.false in
    subst (λ (symbols : List Symbol). IfOk c.between.result (λ kept. text_of kept.items ≡ symbols))
    (beginning_is lines c.args.most c.ahead-row.result (chars c.line_of.result.now) c.edge_back-end.result filled c.ahead-row.ensures.value c.line_of.ensures.characters c.edge_back-end.ensures)
    c.between.ensures.text
