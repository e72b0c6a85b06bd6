use Rattle.std.proofs.Common.{◌≡◌, ◌∙◌, ◌∷◌, [], ◌++◌, true, ◌<◌, sym, ap, arith, subst, cond, length}
use Rattle.textarea_history.specs.Prelude.{IfSome, IsWellFormed, Log, Stored, StoredLog}
use Rattle.textarea_history.proofs.Stores.{store_appended, free_from_room, typed_is}
use Rattle.textarea_history.proofs.history.History.append.Goals as goal

pub invariant_of-self : goal.invariant_of-self
invariant_of-self c =
    let free = free_from_room c.self.inside.items.items c.self.inside.run _ (subst (λ (k : StoredLog). 0 < k.room) (sym c.self.view_is) c.drop_excess.ensures.room) in
    let formed = c.start_run.ensures.well_formed in
    let ok = c.push_back.ensures.succeeds (omega (arith, free)) in
    store_appended c.self.inside.items.items c.push_back.new.self.items c.self.inside.index c.self.inside.max_items c.self.inside.run c.typed_character-typed.result c.args.edit.splice c.set_grouped.new.self c.self.invariant
    (ap (λ (k : StoredLog). k.log.undone) c.self.view_is ∙ ap (λ (l : Log). l.undone) c.drop_excess.ensures.log)
    (subst (λ (k : StoredLog). length k.log.done < k.log.maximum) (sym c.self.view_is) c.drop_excess.ensures.place)
    (c.push_back.ensures.items ∙ ap (λ b. cond b (c.self.inside.items.items ++ c.set_grouped.new.self ∷ []) c.self.inside.items.items) ok)
    (ap (λ (e : Stored). e.splice) c.set_grouped.ensures ∙ c.start_run.ensures.splice)
    (subst IsWellFormed (sym c.set_grouped.ensures) (record { some = formed.some; fragment_lines = formed.fragment_lines; ends = formed.ends }))
    (subst (λ (e : Stored). IfSome c.typed_character-typed.result (λ d. e.grows ≡ true)) (sym c.set_grouped.ensures) c.start_run.ensures.grows)
    (typed_is c.args.edit.splice c.args.coalesce c.typed_character-typed.result c.typed_character-typed.ensures)
