use Rattle.std.proofs.Common.{◌≡◌, ◌∙◌, ◌-◌, Some, sym, ap, arith, true, nat_lt}
use Rattle.std.proofs.lemmas.Bool.Decides.{nat_tests}
use Rattle.textarea_history.specs.Prelude.{as_nanos, StoredLog, pause}
use Rattle.textarea_history.proofs.Stores.{joins_is, typed_is}
use Rattle.textarea_history.proofs.history.History.joins.Goals as goal

pub continues-requires-clause-character : goal.continues-requires-clause-character
continues-requires-clause-character c =
    typed_is c.args.edit.now.splice c.args.coalesce (Some c.in-Some-Some.c) (sym c.in-Some-Some.is-0 ∙ c.typed_character.ensures)

pub returns-then-as_nanos-lt-PAUSE : goal.returns-then-as_nanos-lt-PAUSE
returns-then-as_nanos-lt-PAUSE c =
    let same : c.as_nanos.result ≡ as_nanos c.args.now - as_nanos c.self.inside.last = c.as_nanos.ensures ∙ c.saturating_sub.ensures in
    let soon : nat_lt (as_nanos c.args.now - as_nanos c.self.inside.last) pause ≡ true = grind (arith, nat_tests) in
    let both = c.in-Some-Some in
    c.continues.ensures
    ∙ joins_is c.self.inside.items.items c.self.inside.index c.self.inside.max_items c.self.inside.run (as_nanos c.self.inside.last) (as_nanos c.args.now) both.edge both.c c.self.inside.group
    c.index-newest.result.now c.args.edit.now.splice c.args.coalesce c.args.self.now.log c.self.invariant both.is-1 (sym c.typed_character.ensures ∙ both.is-0) soon c.index-newest.ensures (ap (λ (k : StoredLog). k.log) c.self.view_is)
