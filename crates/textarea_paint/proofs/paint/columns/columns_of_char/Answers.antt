use Rattle.std.proofs.Common.{sym, ◌∙◌, arith}
use Rattle.textarea_paint.proofs.LetterLemmas.{letter-columns}
use Rattle.textarea_paint.proofs.paint.columns.columns_of_char.Goals as goal

pub returns-then-columns-gt0 : goal.returns-then-columns-gt0
returns-then-columns-gt0 c = c.letter_columns-columns.ensures ∙ sym (letter-columns c.args.c (omega (arith, c.letter_columns-columns.ensures)))
