use Rattle.std.proofs.Common.{◌≡◌, ◌+◌, ◌-◌, ◌∙◌, ap, arith, drop, subst, sym}
use Rattle.std.specs.Str.{chars, IsCharBoundary}
use Rattle.textarea_text.proofs.Columns.{IsCharBoundary-column, chars-drop, length_split, offset_in}
use Rattle.textarea_text.proofs.StartLemmas.{offset_further}
use Rattle.textarea_text.proofs.rows.offset_ahead.Goals as goal
use Rattle.textarea_text.proofs.rows.offset_ahead.Goals.{After-offset_within}

pub range_from-requires : goal.range_from-requires
range_from-requires c = λ _.
    subst (IsCharBoundary c.args.line.now) (sym c.requires.offset) (IsCharBoundary-column c.args.line.now c.args.from c.utf8.line)

-- the offset of the column is the known one and the one in what follows it
sum : (c : After-offset_within) → offset_in (chars c.args.line.now) c.args.column ≡ c.args.offset + c.offset_within.result
sum c =
    let rest = chars-drop c.args.line.now c.range_from.result.now c.args.from c.utf8.line c.range_from.utf8 (c.range_from.ensures.value ∙ ap (λ n. drop n c.args.line.now) c.requires.offset) in
    offset_further (chars c.args.line.now) c.args.from c.args.column c.requires.ordered
    ∙ ap (λ front. front + offset_in (drop c.args.from (chars c.args.line.now)) (c.args.column - c.args.from)) (sym c.requires.offset)
    ∙ ap (λ more. c.args.offset + more) (ap (λ cs. offset_in cs (c.args.column - c.args.from)) (sym rest) ∙ sym c.offset_within.ensures)

pub overflow_add-result : goal.overflow_add-result
overflow_add-result c =
    omega (arith, sum (goal.at.overflow_add-result c).After-offset_within, length_split c.args.line.now c.args.column c.utf8.line)

pub returns : goal.returns
returns c = sym (sum (goal.at.returns c).After-offset_within)
