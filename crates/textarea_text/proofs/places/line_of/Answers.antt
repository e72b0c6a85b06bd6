use Rattle.std.proofs.Common.{length, ap, arith}
use Rattle.textarea_text.proofs.StringRows.{characters_bound, line_at}
use Rattle.textarea_text.proofs.places.line_of.Goals as goal

pub returns-clause-fits : goal.returns-clause-fits
returns-clause-fits c =
    omega (arith, characters_bound c.index-lines-row.result, ap length (line_at c.args.lines.now c.args.row c.index-lines-row.result c.requires c.index-lines-row.is))
