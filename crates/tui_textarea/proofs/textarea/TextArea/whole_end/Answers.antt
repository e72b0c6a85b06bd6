use Rattle.std.proofs.Common.{◌≤◌, subst, sym}
use Rattle.textarea_text.specs.Place.{Place, index_of}
use Rattle.tui_textarea.proofs.WholeRemovals.{ahead_from}
use Rattle.tui_textarea.proofs.textarea.TextArea.whole_end.Goals as goal

pub returns-in-Cluster-clause-from : goal.returns-in-Cluster-clause-from
returns-in-Cluster-clause-from c =
    subst (λ (p : Place). index_of c.args.self.now.document.text c.args.place ≤ index_of c.args.self.now.document.text p) (sym c.stop_of.ensures.value)
    (ahead_from c.args.self.now.document c.args.place)
