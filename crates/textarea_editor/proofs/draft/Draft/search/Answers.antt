use Rattle.std.proofs.Common.{[], ◌∷◌, ◌||◌, false, is_err, refl}
use Rattle.textarea_editor.proofs.Drafts.{IsNoted, fails_noted, makes_noted}
use Rattle.textarea_editor.proofs.Searches.{found_noted, search_edits_nothing}
use Rattle.textarea_editor.proofs.draft.Draft.search.Goals as goal
use Rattle.textarea_editor.specs.declared.draft.Draft.{Draft}

-- the draft before it is noted
left : goal.After-note → Draft
left c = record c.args.self.now { area = c.make_search-made.new.area }

noted : (c : goal.After-note) → IsNoted (left c) (false || is_err c.make_search-made.result) c.note.new.self
unfolding left
noted c = record { same = c.note.ensures.same; mark = c.note.ensures.mark }

pub returns-clause-ok : goal.returns-clause-ok
unfolding left
returns-clause-ok c =
    makes_noted c.note.result c.make_search-made.result c.args.self.now (left c) c.note.new.self (c.args.call ∷ []) false c.note.ensures.made refl refl (noted c)
    (search_edits_nothing c.args.call c.requires) c.make_search-made.ensures.ok

pub returns-clause-err : goal.returns-clause-err
unfolding left
returns-clause-err c =
    fails_noted c.note.result c.make_search-made.result c.args.self.now (left c) c.note.new.self (c.args.call ∷ []) false c.note.ensures.made refl refl (noted c)
    c.make_search-made.ensures.err

pub returns-clause-found : goal.returns-clause-found
unfolding left
returns-clause-found c =
    found_noted c.note.result c.make_search-made.result (left c) c.note.new.self c.note.ensures.made c.note.ensures.same c.make_search-made.ensures.found
