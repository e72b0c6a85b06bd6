use Rattle.std.proofs.Common.{arith}
use Rattle.textarea_highlight.proofs.SeamLemmas.{known_further}
use Rattle.textarea_highlight.proofs.highlight.seams.after_visible.Goals as goal

pub returns-clause-known : goal.returns-clause-known
returns-clause-known c = known_further c.args.row.now c.args.tab_len c.args.at c.args.count c.utf8.row c.requires.known c.requires.visible c.args.count (omega arith)
