use Rattle.std.proofs.Common.{◌∙◌, ◌-◌, ◌<◌, arith, sym, ap, subst}
use Rattle.textarea_history.specs.Prelude.{as_nanos, StoredLog}
use Rattle.textarea_history.proofs.Stores.{Joining, joining, room_to_grow, store_joined, log_joined, from_character, formed_at}
use Rattle.textarea_history.proofs.history.History.join.Goals as goal

joining_here : (c : goal.After-index_mut-newest) → Joining c.self.inside.items.items c.self.inside.index c.self.inside.run c.index_mut-newest.result.now c.args.edit.now.splice
joining_here c =
    joining c.self.inside.items.items c.self.inside.index c.self.inside.max_items c.self.inside.run (as_nanos c.self.inside.last) (as_nanos c.args.now) c.self.inside.group
    c.index_mut-newest.result.now c.args.edit.now.splice c.args.self.now.log c.self.invariant (ap (λ (k : StoredLog). k.log) c.self.view_is) c.index_mut-newest.ensures.value c.requires.joins

pub grow-requires-clause-room : goal.grow-requires-clause-room
grow-requires-clause-room c =
    let j = joining_here c in
    room_to_grow c.self.inside.items.items c.self.inside.index c.self.inside.run _ c.index_mut-newest.result.now j.edge j.run_is j.whole j.some c.index_mut-newest.ensures.value
    (subst (λ (k : StoredLog). 0 < k.room) (sym c.self.view_is) c.requires.room)

pub grow-requires-clause-direction : goal.grow-requires-clause-direction
grow-requires-clause-direction c = (joining_here c).direction

pub grow-requires-clause-place : goal.grow-requires-clause-place
grow-requires-clause-place c = (joining_here c).place

pub invariant_of-self : goal.invariant_of-self
invariant_of-self c =
    let j =
    joining c.self.inside.items.items c.self.inside.index c.self.inside.max_items c.self.inside.run (as_nanos c.self.inside.last) (as_nanos c.args.now) c.self.inside.group
    c.index_mut-newest.result.now c.args.edit.now.splice c.args.self.now.log c.self.invariant (ap (λ (k : StoredLog). k.log) c.self.view_is) c.index_mut-newest.ensures.value c.requires.joins in
    store_joined c.self.inside.items.items c.self.inside.index c.self.inside.max_items c.self.inside.run c.index_mut-newest.result.now c.grow.new.self c.args.edit.now.splice c.in-Some.c
    c.self.invariant j c.grow.ensures.splice c.grow.ensures.grows c.grow.ensures.well_formed (from_character c.args.edit.now.splice.symbols c.in-Some.c (sym c.typed_character.ensures ∙ c.in-Some.is))

pub returns-in-Some : goal.returns-in-Some
returns-in-Some c =
    let j =
    joining c.self.inside.items.items c.self.inside.index c.self.inside.max_items c.self.inside.run (as_nanos c.self.inside.last) (as_nanos c.args.now) c.self.inside.group
    c.index_mut-newest.result.now c.args.edit.now.splice c.args.self.now.log c.self.invariant (ap (λ (k : StoredLog). k.log) c.self.view_is) c.index_mut-newest.ensures.value c.requires.joins in
    rw c.with_edit-self-inside.ensures
    (log_joined c.self.inside.items.items c.self.inside.index c.self.inside.max_items c.self.inside.run (as_nanos c.self.inside.last) (as_nanos c.args.now) c.self.inside.group
    c.index_mut-newest.result.now c.grow.new.self c.args.edit.now.splice c.args.self.now.log c.self.invariant j c.index_mut-newest.ensures.value (ap (λ (k : StoredLog). k.log) c.self.view_is) c.grow.ensures.splice c.grow.ensures.grouped)

pub grow-requires-clause-well_formed : goal.grow-requires-clause-well_formed
grow-requires-clause-well_formed c =
    let j = joining_here c in
    formed_at c.self.inside.items.items (c.self.inside.index - 1) c.index_mut-newest.result.now c.self.invariant.sound (omega (arith, j.whole, j.some)) c.index_mut-newest.ensures.value

pub grow-requires-clause-character : goal.grow-requires-clause-character
grow-requires-clause-character c = from_character c.args.edit.now.splice.symbols c.in-Some.c (sym c.typed_character.ensures ∙ c.in-Some.is)
