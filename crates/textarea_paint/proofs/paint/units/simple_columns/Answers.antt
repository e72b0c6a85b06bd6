use Rattle.std.proofs.Common.{◌<◌, sym, ◌∙◌, arith}
use Rattle.textarea_paint.specs.Letters.{letter_columns}
use Rattle.textarea_paint.proofs.LetterLemmas.{letter-columns, letter-simple}
use Rattle.textarea_paint.proofs.paint.units.simple_columns.Goals as goal

pub returns-then-columns-gt0-clause-simple : goal.returns-then-columns-gt0-clause-simple
returns-then-columns-gt0-clause-simple c =
    let some : 0 < letter_columns c.args.c = omega (arith, c.letter_columns-columns.ensures, c.if-columns-gt0.true) in
    letter-simple c.args.c some

pub returns-then-columns-gt0-clause-columns : goal.returns-then-columns-gt0-clause-columns
returns-then-columns-gt0-clause-columns c =
    let some : 0 < letter_columns c.args.c = omega (arith, c.letter_columns-columns.ensures, c.if-columns-gt0.true) in
    c.letter_columns-columns.ensures ∙ sym (letter-columns c.args.c some)
