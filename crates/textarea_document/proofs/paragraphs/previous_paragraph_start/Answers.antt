use Rattle.std.proofs.Common.{◌≡◌, ◌+◌, ◌-◌, ◌∙◌, sym, arith, length, true}
use Rattle.std.proofs.lemmas.List.{length-map}
use Rattle.textarea_document.specs.Prelude.{characters_of, lines_of, is_earlier_paragraph_start}
use Rattle.textarea_text.proofs.NearestLemmas.{greatest_below-here, greatest_below-past}
use Rattle.textarea_document.proofs.RowLemmas.{is_earlier_paragraph_start-at}
use Rattle.textarea_document.proofs.paragraphs.previous_paragraph_start.Goals as goal

pub returns-then-is_paragraph_start-clause-value : goal.returns-then-is_paragraph_start-clause-value
returns-then-is_paragraph_start-clause-value c =
    let rows = lines_of c.args.lines.now in
    let row = c.loop-row.row - 1 in
    let last : row + 1 ≡ c.loop-row.row = omega arith in
    sym (greatest_below-past (is_earlier_paragraph_start rows c.args.start) (row + 1) (length rows) (omega (arith, length-map c.args.lines.now characters_of)) (λ e above. c.loop-row.invariant e (omega arith))
    ∙ greatest_below-here (is_earlier_paragraph_start rows c.args.start) row
    (is_earlier_paragraph_start-at rows c.args.start row true (omega arith) (sym c.is_paragraph_start.ensures ∙ c.if-is_paragraph_start.true)))

pub returns-clause-value : goal.returns-clause-value
returns-clause-value c =
    let rows = lines_of c.args.lines.now in
    sym (greatest_below-past (is_earlier_paragraph_start rows c.args.start) 0 (length rows) (omega arith) (λ e above. c.loop-row.invariant e (omega arith)))
