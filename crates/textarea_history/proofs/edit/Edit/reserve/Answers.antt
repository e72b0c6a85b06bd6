use Rattle.std.proofs.Common.{◌≡◌, ◌∙◌, ◌∷◌, [], ◌++◌, sym, ap, subst, encode_utf8}
use Rattle.textarea_history.specs.Prelude.{characters_of, IsWellFormed}
use Rattle.textarea_history.proofs.Runs.{characters_of-first, content_again, splice_again}
use Rattle.textarea_history.proofs.edit.Edit.reserve.Goals as goal
use Rattle.textarea_history.proofs.edit.Edit.reserve.Goals.{In_ok-try_reserve-in-Character}

first : (c : In_ok-try_reserve-in-Character) → characters_of c.try_reserve-in-Character.new.self ≡ c.in-Character.c ∷ []
first c =
    characters_of-first c.try_reserve-in-Character.new.self c.in-Character.c
    (c.try_reserve-in-Character.ensures.bytes ∙ c.in_ok-push-in-Character.ensures.bytes ∙ ap (λ t. t ++ encode_utf8 c.in-Character.c) c.new-text.ensures.bytes)

pub returns-in_ok-try_reserve-in-Character-clause-well_formed : goal.returns-in_ok-try_reserve-in-Character-clause-well_formed
returns-in_ok-try_reserve-in-Character-clause-well_formed c =
    content_again c.self.inside.inserts c.self.inside.start c.self.inside.end c.in-Character.c c.try_reserve-in-Character.new.self (subst IsWellFormed (sym c.self.view_is) c.requires.well_formed) c.in-Character.is
    (first (goal.at.returns-in_ok-try_reserve-in-Character-clause-well_formed c).In_ok-try_reserve-in-Character)

pub returns-in_ok-try_reserve-in-Character-clause-splice : goal.returns-in_ok-try_reserve-in-Character-clause-splice
returns-in_ok-try_reserve-in-Character-clause-splice c =
    splice_again c.self.inside.inserts c.self.inside.start c.self.inside.end c.in-Character.c c.try_reserve-in-Character.new.self c.self.view_is c.in-Character.is
    (first (goal.at.returns-in_ok-try_reserve-in-Character-clause-splice c).In_ok-try_reserve-in-Character)
