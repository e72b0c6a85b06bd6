use Rattle.std.proofs.Common.{◌≡◌, ◌-◌, arith, drop, take}
use Rattle.textarea_search.proofs.ColumnLemmas.{column_sum}
use Rattle.textarea_search.proofs.search.listed.column_from.Goals as goal
use Rattle.textarea_util.proofs.Characters.{length-chars}

pub overflow_add-result : goal.overflow_add-result
overflow_add-result c =
    let part : c.range.result.now ≡ take (c.args.byte - c.args.known.0) (drop c.args.known.0 c.args.line.now) = grind arith in
    let sum = column_sum c.args.line.now c.range.result.now c.args.known.0 c.args.byte c.args.known.1 c.column_count.result c.utf8.line c.requires.known_boundary c.requires.boundary c.requires.ordered c.requires.column part
    c.column_count.ensures in
    omega (arith, sum.1, length-chars c.args.line.now c.utf8.line)

pub returns-clause-column : goal.returns-clause-column
returns-clause-column c =
    let part : c.range.result.now ≡ take (c.args.byte - c.args.known.0) (drop c.args.known.0 c.args.line.now) = grind arith in
    (column_sum c.args.line.now c.range.result.now c.args.known.0 c.args.byte c.args.known.1 c.column_count.result c.utf8.line c.requires.known_boundary c.requires.boundary c.requires.ordered c.requires.column part
    c.column_count.ensures).0

pub returns-clause-within : goal.returns-clause-within
returns-clause-within c =
    let part : c.range.result.now ≡ take (c.args.byte - c.args.known.0) (drop c.args.known.0 c.args.line.now) = grind arith in
    (column_sum c.args.line.now c.range.result.now c.args.known.0 c.args.byte c.args.known.1 c.column_count.result c.utf8.line c.requires.known_boundary c.requires.boundary c.requires.ordered c.requires.column part
    c.column_count.ensures).1
