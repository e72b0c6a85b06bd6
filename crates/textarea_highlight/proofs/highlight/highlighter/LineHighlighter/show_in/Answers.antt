use Rattle.std.proofs.Common.{IsUtf8, length, ap, subst, sym, ◌∙◌}
use Rattle.std.proofs.lemmas.Result.{on_ok_weaker}
use Rattle.textarea_highlight.specs.Borders.{ArePlaced}
use Rattle.textarea_highlight.specs.Highlights.{Highlights}
use Rattle.textarea_highlight.specs.Row.{IsPartOf, whole_row}
use Rattle.textarea_highlight.specs.declared.highlight.highlighter.RowPart.{RowPart}
use Rattle.textarea_highlight.proofs.RowLemmas.{row_displayed, whole_is_part}
use Rattle.textarea_highlight.proofs.highlight.highlighter.LineHighlighter.show_in.Goals as goal

pub show_part_in-requires : goal.show_part_in-requires
show_part_in-requires c =
    let h = c.args.self.now in
    let utf8 = subst (λ (k : Highlights). IsUtf8 k.row) c.self.view_is c.whole_row-whole.ensures.text in
    subst (λ (part : RowPart). IsPartOf h part) (sym (c.whole_row-whole.ensures.part ∙ ap (λ (k : Highlights). whole_row k.row) c.self.view_is)) (whole_is_part h utf8)

pub returns-clause-displayed : goal.returns-clause-displayed
returns-clause-displayed c =
    let h = c.args.self.now in
    let utf8 = subst (λ (k : Highlights). IsUtf8 k.row) c.self.view_is c.whole_row-whole.ensures.text in
    let placed = subst (λ (k : Highlights). ArePlaced k.row k.borders) c.self.view_is c.self.invariant.0 in
    on_ok_weaker c.show_part_in.result
    (λ shown.
    row_displayed h c.whole_row-whole.result _ (ap (λ (part : RowPart). part.from) c.whole_row-whole.ensures.part)
    (ap (λ (part : RowPart). part.to) c.whole_row-whole.ensures.part ∙ ap (λ (k : Highlights). length k.row) c.self.view_is) utf8 placed shown)
    c.show_part_in.ensures.displayed
