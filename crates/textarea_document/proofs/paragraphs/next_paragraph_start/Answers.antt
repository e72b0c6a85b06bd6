use Rattle.std.proofs.Common.{◌∙◌, sym, arith, length, true}
use Rattle.std.proofs.lemmas.List.{length-map}
use Rattle.textarea_document.specs.Prelude.{characters_of, lines_of, is_later_paragraph_start}
use Rattle.textarea_text.proofs.NearestLemmas.{least_below-found, least_below-none}
use Rattle.textarea_document.proofs.RowLemmas.{is_later_paragraph_start-at}
use Rattle.textarea_document.proofs.paragraphs.next_paragraph_start.Goals as goal

pub returns-then-is_paragraph_start-clause-value : goal.returns-then-is_paragraph_start-clause-value
returns-then-is_paragraph_start-clause-value c =
    let rows = lines_of c.args.lines.now in
    sym (least_below-found (is_later_paragraph_start rows c.args.start) c.loop-row.row (length rows) c.loop-row.invariant
    (is_later_paragraph_start-at rows c.args.start c.loop-row.row true (omega arith) (sym c.is_paragraph_start.ensures ∙ c.if-is_paragraph_start.true))
    (omega (arith, length-map c.args.lines.now characters_of)))

pub returns-clause-value : goal.returns-clause-value
returns-clause-value c =
    let rows = lines_of c.args.lines.now in
    sym (least_below-none (is_later_paragraph_start rows c.args.start) (length rows)
    (λ e below. c.loop-row.invariant e (omega (arith, length-map c.args.lines.now characters_of))))
