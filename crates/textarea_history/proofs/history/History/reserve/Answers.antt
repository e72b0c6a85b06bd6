use Rattle.std.proofs.Common.{◌∙◌, ◌-◌, ◌<◌, sym, ap, arith, length}
use Rattle.std.proofs.lemmas.Result.{on_ok_weaker}
use Rattle.textarea_history.specs.Prelude.{StoredLog, grouped_in, splice_in}
use Rattle.textarea_history.proofs.Stores.{formed_at, newest_grows, part_same, room_ready, run_some, store_ready, store_same}
use Rattle.textarea_history.proofs.history.History.reserve.Goals as goal

pub invariant_of-self : goal.invariant_of-self
invariant_of-self c =
    store_same c.self.inside.items.items c.reserve.new.self.items c.self.inside.index c.self.inside.max_items c.self.inside.run c.reserve.ensures.items c.self.invariant

pub invariant_of-self-else-is_some : goal.invariant_of-self-else-is_some
invariant_of-self-else-is_some c =
    store_same c.self.inside.items.items c.reserve.new.self.items c.self.inside.index c.self.inside.max_items c.self.inside.run c.reserve.ensures.items c.self.invariant

pub invariant_of-self-then-is_some : goal.invariant_of-self-then-is_some
invariant_of-self-then-is_some c =
    let inside = c.self.inside in
    let now = c.reserve.new.self.items in
    let store = store_same inside.items.items now inside.index inside.max_items inside.run c.reserve.ensures.items c.self.invariant in
    let edit = c.reserve-then-is_some.ensures in
    store_ready now inside.index inside.max_items inside.run c.index_mut.result.now c.reserve-then-is_some.new.self store c.index_mut.ensures.value edit.splice edit.grows edit.well_formed

pub reserve-requires-then-is_some-clause-well_formed : goal.reserve-requires-then-is_some-clause-well_formed
reserve-requires-then-is_some-clause-well_formed c =
    let inside = c.self.inside in
    let now = c.reserve.new.self.items in
    let store = store_same inside.items.items now inside.index inside.max_items inside.run c.reserve.ensures.items c.self.invariant in
    let run = run_some now inside.index inside.run store.run_is (sym c.is_some.ensures ∙ c.if-is_some.true) in
    formed_at now (inside.index - 1) c.index_mut.result.now store.sound (omega (arith, run.0, run.1)) c.index_mut.ensures.value

pub reserve-requires-then-is_some-clause-grows : goal.reserve-requires-then-is_some-clause-grows
reserve-requires-then-is_some-clause-grows c =
    let inside = c.self.inside in
    let now = c.reserve.new.self.items in
    let store = store_same inside.items.items now inside.index inside.max_items inside.run c.reserve.ensures.items c.self.invariant in
    newest_grows now inside.index inside.run c.index_mut.result.now store.run_is (sym c.is_some.ensures ∙ c.if-is_some.true) c.index_mut.ensures.value

pub returns-then-is_some-clause-same : goal.returns-then-is_some-clause-same
returns-then-is_some-clause-same c =
    let inside = c.self.inside in
    let run = run_some inside.items.items inside.index inside.run c.self.invariant.run_is (sym c.is_some.ensures ∙ c.if-is_some.true) in
    let now = c.reserve.new.self.items in
    let edit = c.reserve-then-is_some in
    let here : inside.index - 1 < length now = omega (arith, run.0, run.1, ap length c.reserve.ensures.items) in
    rw (
      part_same splice_in now (inside.index - 1) c.index_mut.result.now edit.new.self here c.index_mut.ensures.value edit.ensures.splice,
      part_same grouped_in now (inside.index - 1) c.index_mut.result.now edit.new.self here c.index_mut.ensures.value edit.ensures.grouped,
      c.reserve.ensures.items,
    )
    (ap (λ (k : StoredLog). k.log) c.self.view_is)

pub returns-then-is_some-clause-ok : goal.returns-then-is_some-clause-ok
returns-then-is_some-clause-ok c =
    let inside = c.self.inside in
    let now = c.reserve.new.self.items in
    let run = run_some inside.items.items inside.index inside.run c.self.invariant.run_is (sym c.is_some.ensures ∙ c.if-is_some.true) in
    on_ok_weaker c.reserve-then-is_some.result
    (λ spare. room_ready now inside.index inside.run _ c.reserve-then-is_some.new.self (omega (arith, run.0, ap length c.reserve.ensures.items))
    (omega (arith, run.1, ap length c.reserve.ensures.items)) (omega (arith, c.in_ok-reserve.ensures.ok)) spare)
    c.reserve-then-is_some.ensures.ok
