use Rattle.std.proofs.Common.{ap, is_some, arith}
use Rattle.std.proofs.lemmas.Grind.{common_steps}
use Rattle.textarea_history.specs.Prelude.{as_nanos, Stored, StoredLog}
use Rattle.textarea_history.proofs.Stores.{next_at, next_none}
use Rattle.textarea_history.proofs.history.History.next.Goals as goal

pub returns-clause-edit : goal.returns-clause-edit
returns-clause-edit c =
    let inside = c.self.inside in
    let items = inside.items.items in
    let log_is = ap (λ (k : StoredLog). k.log) c.self.view_is in
    grind (
      arith,
      common_steps,
      log_is,
      next_none items inside.index inside.max_items (is_some inside.run) (as_nanos inside.last) inside.group,
      λ (edit : Stored). next_at items inside.index
          inside.max_items (is_some inside.run) (as_nanos inside.last) inside.group edit c.args.self.now.log,
    )
