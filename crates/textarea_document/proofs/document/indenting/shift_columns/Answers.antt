use Rattle.std.proofs.Common.{arith}
use Rattle.std.specs.Str.{chars}
use Rattle.textarea_document.proofs.IndentedTexts.{outdent_within}
use Rattle.textarea_document.proofs.document.indenting.shift_columns.Goals as goal

pub whole_columns-requires-clause-within : goal.whole_columns-requires-clause-within
whole_columns-requires-clause-within c =
    omega (arith, c.outdent_columns-count.ensures.value, outdent_within c.args.ranges.now c.args.tab_length c.args.row (chars c.args.line.now))
