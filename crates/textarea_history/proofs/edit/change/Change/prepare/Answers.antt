use Rattle.std.proofs.Common.{◌≡◌, ◌∙◌, ◌∷◌, [], ◌++◌, false, ap, sym}
use Rattle.std.proofs.lemmas.Result.{IfOk-weaker}
use Rattle.std.proofs.lemmas.Str.{chars-nil}
use Rattle.textarea_history.specs.Prelude.{chars, Break, Splice, characters, characters_of, symbols_in}
use Rattle.textarea_history.proofs.Changes.{Removing, characters_of_one, removed_by, removing, symbols_of_change}
use Rattle.textarea_history.proofs.edit.change.Change.prepare.Goals as goal
use Rattle.textarea_history.proofs.edit.change.Change.prepare.Goals.{After-end}

-- ---- a removal

removes : (c : After-end) → c.args.self.now.inserts ≡ false
removes c = sym (ap (λ (s : Splice). s.inserts) c.self.view_is) ∙ c.if-not-self.true

known : (c : After-end) → Removing c.args.lines.now c.args.self.now c.start-start.result c.end.result
known c = removing c.args.lines.now c.args.self.now c.start-start.result c.end.result c.requires.nonempty c.requires.fits (removes c) c.start-start.ensures c.end.ensures

pub prepare_replacement-requires-clause-from : goal.prepare_replacement-requires-clause-from
prepare_replacement-requires-clause-from c = (known (goal.at.prepare_replacement-requires-clause-from c).After-end).from

pub prepare_replacement-requires-clause-to : goal.prepare_replacement-requires-clause-to
prepare_replacement-requires-clause-to c = (known (goal.at.prepare_replacement-requires-clause-to c).After-end).end_place

pub prepare_replacement-requires-clause-ordered : goal.prepare_replacement-requires-clause-ordered
prepare_replacement-requires-clause-ordered c = (known (goal.at.prepare_replacement-requires-clause-ordered c).After-end).rows

pub returns-then-not-self : goal.returns-then-not-self
returns-then-not-self c =
    IfOk-weaker c.prepare_replacement.result _ _
    (λ r. removed_by c.args.lines.now c.args.self.now c.start-start.result c.end.result (characters (chars []) ++ []) r c.requires.nonempty c.requires.fits
    (removes (goal.at.returns-then-not-self c).After-end) c.start-start.ensures c.end.ensures (ap (λ t. characters t ++ []) chars-nil))
    c.prepare_replacement.ensures

-- ---- an insertion

pub prepare_insertion-requires-clause-symbols : goal.prepare_insertion-requires-clause-symbols
prepare_insertion-requires-clause-symbols c =
    let inside = c.edit.inside in
    ap (λ t. t ++ []) (characters_of_one c.encode_utf8.result.now c.in-Character.c c.encode_utf8.utf8 c.encode_utf8.ensures.value)
    ∙ ap (symbols_in inside.inserts) (sym c.in-Character.is)
    ∙ symbols_of_change inside.content inside.inserts c.self.inside.inserts inside.start inside.end c.self.inside.edit.now c.args.self.now c.edit.view_is c.self.view_is

pub prepare_insertion-requires-in-Break-clause-symbols : goal.prepare_insertion-requires-in-Break-clause-symbols
prepare_insertion-requires-in-Break-clause-symbols c =
    let inside = c.edit.inside in
    ap (λ t. characters t ++ (Break ∷ (characters (characters_of c.new.result) ++ []))) chars-nil
    ∙ ap (λ t. Break ∷ (characters t ++ [])) (ap chars c.new.ensures.bytes ∙ chars-nil)
    ∙ ap (symbols_in inside.inserts) (sym c.in-Break.is)
    ∙ symbols_of_change inside.content inside.inserts c.self.inside.inserts inside.start inside.end c.self.inside.edit.now c.args.self.now c.edit.view_is c.self.view_is
