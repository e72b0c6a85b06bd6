use Rattle.std.proofs.Common.{lit<}
use Rattle.std.proofs.lemmas.Fmt.{length-decimal-le}
use Rattle.textarea_parts_tests.proofs.highlight.ask.Goals as goal

-- 124 has at most five digits
pub line_number-requires-clause-fits : goal.line_number-requires-clause-fits
line_number-requires-clause-fits g = length-decimal-le 5 124 (lit< tt) (lit< tt) (lit< tt)
