use Rattle.std.proofs.Common.{ap}
use Rattle.textarea_history.specs.Prelude.{StoredLog}
use Rattle.textarea_history.proofs.Copies.{marks_copied, splices_copied, store_copied}
use Rattle.textarea_history.proofs.history.HistoryClone.clone.Goals as goal

pub invariant_of-result : goal.invariant_of-result
invariant_of-result c =
    store_copied c.self.inside.items.items c.in_ok-clone.field-0.items c.self.inside.index c.self.inside.max_items c.self.inside.run c.in_ok-clone.ensures.cases.0 c.self.invariant

pub returns : goal.returns
returns c =
    let inside = c.self.inside in
    let copies = c.in_ok-clone.field-0.items in
    record {
      cases = rw (splices_copied inside.items.items copies c.in_ok-clone.ensures.cases.0, marks_copied inside.items.items copies c.in_ok-clone.ensures.cases.0)
          (ap (λ (k : StoredLog). k.log) c.self.view_is);
    }
