use Rattle.std.proofs.Common.{subst}
use Rattle.textarea_document.specs.Sound.{IsSound}
use Rattle.textarea_document.proofs.UndoLaw.{gives_back}
use Rattle.textarea_document.proofs.document.Document.undos_restore.Goals as goal

pub returns : goal.returns
returns c = λ count within. gives_back count c.args.self.now (subst IsSound c.self.view_is c.self.invariant) within
