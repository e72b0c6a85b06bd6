use Rattle.std.proofs.Common.{◌∙◌, sym}
use Rattle.textarea_search.proofs.ColumnLemmas.{offset_of_single}
use Rattle.textarea_search.proofs.search.listed.byte_of.Goals as goal

pub returns-then-count-line-clause-inside : goal.returns-then-count-line-clause-inside
returns-then-count-line-clause-inside c = offset_of_single c.args.line.now c.args.column c.utf8.line (sym c.column_count-count.ensures ∙ c.if-count-line.true)
