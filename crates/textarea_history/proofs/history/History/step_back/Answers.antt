use Rattle.std.proofs.Common.{ap, is_some}
use Rattle.textarea_history.specs.Prelude.{as_nanos, StoredLog}
use Rattle.textarea_history.proofs.Stores.{newest_within, stepped_back}
use Rattle.textarea_history.proofs.history.History.step_back.Goals as goal

pub returns : goal.returns
returns c =
    stepped_back c.self.inside.items.items c.self.inside.index c.self.inside.max_items (is_some c.self.inside.run) (as_nanos c.self.inside.last) c.self.inside.group c.args.self.now.log
    c.self.invariant.within (ap (λ (k : StoredLog). k.log) c.self.view_is)
    (newest_within c.self.inside.items.items c.self.inside.index c.self.inside.max_items (is_some c.self.inside.run) (as_nanos c.self.inside.last) c.self.inside.group c.args.self.now.log
    (ap (λ (k : StoredLog). k.log) c.self.view_is) c.requires)
