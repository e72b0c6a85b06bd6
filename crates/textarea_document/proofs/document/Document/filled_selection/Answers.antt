use Rattle.std.proofs.Common.{arith}
use Rattle.std.proofs.lemmas.Grind.{common_steps}
use Rattle.textarea_document.specs.Prelude.{Place}
use Rattle.textarea_document.proofs.Orders.{index_before}
use Rattle.textarea_document.proofs.document.Document.filled_selection.Goals as goal

pub returns-clause-ordered : goal.returns-clause-ordered
returns-clause-ordered c = grind (arith, common_steps, λ (start end : Place). index_before c.args.self.now.text start end)
