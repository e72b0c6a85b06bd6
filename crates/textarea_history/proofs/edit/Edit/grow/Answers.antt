use Rattle.std.proofs.Common.{◌≡◌, ◌∙◌, ◌++◌, ◌∷◌, [], sym, ap, subst, cond}
use Rattle.textarea_history.specs.Prelude.{characters_of, end, Stored, IsWellFormed, stored_of, symbols_in, merged, Typed}
use Rattle.textarea_history.proofs.Runs.{pushed_in_room, grown_splice, grown_content}
use Rattle.textarea_history.proofs.edit.Edit.grow.Goals as goal
use Rattle.textarea_history.proofs.edit.Edit.grow.Goals.{After-push}

pushed : (c : After-push) → characters_of c.push.new.self ≡ characters_of c.in-Typed.text ++ c.args.c ∷ []
pushed c =
    pushed_in_room c.self.inside.inserts c.self.inside.start c.self.inside.end c.in-Typed.text c.push.new.self c.args.c c.push.result c.self.view_is c.in-Typed.is c.requires.room
    c.push.ensures.char_len c.push.ensures.succeeds c.push.ensures.bytes

-- the run's splice, whether its start moves or its end
splice : (c : After-push) →
    record { place = cond c.self.inside.inserts c.self.inside.start c.edit.inside.start; symbols = symbols_in c.self.inside.inserts (Typed c.push.new.self); inserts = c.self.inside.inserts } ≡ merged
    c.args.self.now.splice c.args.edit.now.splice
splice c =
    grown_splice c.self.inside.content c.self.inside.inserts c.self.inside.start c.self.inside.end c.edit.inside.start c.in-Typed.text c.push.new.self c.args.c c.args.self.now c.args.edit.now.splice
    c.self.view_is c.in-Typed.is (pushed c) c.requires.character
    (ap (λ (s : Stored). s.splice.place) (sym c.edit.view_is))

well_formed : (c : After-push) →
    IsWellFormed
    (stored_of (Typed c.push.new.self) c.self.inside.inserts (cond c.self.inside.inserts c.self.inside.start c.edit.inside.start) (cond c.self.inside.inserts c.edit.inside.end c.self.inside.end)
    c.self.inside.grouped)
well_formed c =
    grown_content c.self.inside.content c.self.inside.inserts c.self.inside.start c.self.inside.end c.edit.inside.start c.edit.inside.end c.in-Typed.text c.push.new.self c.args.c c.args.self.now
    c.args.edit.now.splice (subst IsWellFormed (sym c.self.view_is) c.requires.well_formed) c.self.view_is c.in-Typed.is (pushed c) c.requires.character
    (ap (λ (s : Stored). s.splice.place) (sym c.edit.view_is))
    (ap (λ (s : Stored). s.end) c.edit.view_is ∙ c.requires.other.ends ∙ ap (λ (s : Stored). end s.splice.place c.args.edit.now.splice.symbols) (sym c.edit.view_is))
    c.requires.direction c.requires.place

pub returns-then-self-clause-splice : goal.returns-then-self-clause-splice
returns-then-self-clause-splice c = rw c.if-self.true (rw c.if-self.true at (splice (goal.at.returns-then-self-clause-splice c).After-push))

pub returns-then-self-clause-well_formed : goal.returns-then-self-clause-well_formed
returns-then-self-clause-well_formed c = rw c.if-self.true (rw c.if-self.true at (well_formed (goal.at.returns-then-self-clause-well_formed c).After-push))

pub returns-else-self-clause-splice : goal.returns-else-self-clause-splice
returns-else-self-clause-splice c = rw c.if-self.false (rw c.if-self.false at (splice (goal.at.returns-else-self-clause-splice c).After-push))

pub returns-else-self-clause-well_formed : goal.returns-else-self-clause-well_formed
returns-else-self-clause-well_formed c = rw c.if-self.false (rw c.if-self.false at (well_formed (goal.at.returns-else-self-clause-well_formed c).After-push))
