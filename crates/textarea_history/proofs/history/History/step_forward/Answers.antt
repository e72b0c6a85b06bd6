use Rattle.std.proofs.Common.{ap, is_some}
use Rattle.textarea_history.specs.Prelude.{as_nanos, StoredLog}
use Rattle.textarea_history.proofs.Stores.{next_within, stepped_forward}
use Rattle.textarea_history.proofs.history.History.step_forward.Goals as goal

pub returns : goal.returns
returns c =
    stepped_forward c.self.inside.items.items c.self.inside.index c.self.inside.max_items (is_some c.self.inside.run) (as_nanos c.self.inside.last) c.self.inside.group c.args.self.now.log
    (next_within c.self.inside.items.items c.self.inside.index c.self.inside.max_items (is_some c.self.inside.run) (as_nanos c.self.inside.last) c.self.inside.group c.args.self.now.log
    c.self.invariant.within (ap (λ (k : StoredLog). k.log) c.self.view_is) c.requires) (ap (λ (k : StoredLog). k.log) c.self.view_is)
