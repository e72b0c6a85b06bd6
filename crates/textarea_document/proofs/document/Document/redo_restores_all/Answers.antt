use Rattle.std.proofs.Common.{subst}
use Rattle.textarea_document.specs.Sound.{IsSound}
use Rattle.textarea_document.proofs.UndoLaw.{gives_all_back}
use Rattle.textarea_document.proofs.document.Document.redo_restores_all.Goals as goal

pub returns : goal.returns
returns c = λ splice typed now fits some. gives_all_back c.args.self.now splice typed now (subst IsSound c.self.view_is c.self.invariant) fits some
