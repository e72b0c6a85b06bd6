use Rattle.std.proofs.Common.{◌≤◌, subst, sym}
use Rattle.textarea_text.specs.Place.{Place, index_of}
use Rattle.tui_textarea.proofs.WholeRemovals.{back_upto}
use Rattle.tui_textarea.proofs.textarea.TextArea.whole_start.Goals as goal

pub returns-in-Cluster-clause-upto : goal.returns-in-Cluster-clause-upto
returns-in-Cluster-clause-upto c =
    subst (λ (p : Place). index_of c.args.self.now.document.text p ≤ index_of c.args.self.now.document.text c.args.place) (sym c.stop_of.ensures.value)
    (back_upto c.args.self.now.document c.args.place)
