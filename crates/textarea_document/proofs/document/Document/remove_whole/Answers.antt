use Rattle.std.proofs.Common.{◌≡◌, ◌∙◌, ap, arith, subst, List, false}
use Rattle.textarea_document.specs.Prelude.{Symbol, TakesWhole, removal}
use Rattle.textarea_document.proofs.Betweens.{between_ends, between_some, removal_fits, some_lines, well_formed}
use Rattle.textarea_document.proofs.document.Document.remove_whole.Goals as goal
use Rattle.textarea_document.proofs.document.Document.remove_whole.Goals.{In_ok-edit_of}

pub edit_of-requires : goal.edit_of-requires
edit_of-requires c =
    omega (arith, some_lines c.args.fragment_lines.value.items c.requires.fragment_lines (between_some c.args.self.now.text c.args.from c.args.to c.requires.to c.requires.ordered), c.args.fragment_lines.value.ok.0)

-- the splice of the edit is the removal
removes : (c : In_ok-edit_of) → c.in_ok-edit_of.field-0.splice ≡ removal c.args.self.now.text c.args.from c.args.to
removes c = c.in_ok-edit_of.ensures.splice ∙ ap (λ (s : List Symbol). record { place = c.args.from; symbols = s; inserts = false }) c.requires.fragment_lines

pub edit-requires-clause-well_formed : goal.edit-requires-clause-well_formed
edit-requires-clause-well_formed c =
    let text = c.args.self.now.text in
    well_formed c.in_ok-edit_of.field-0 (removal text c.args.from c.args.to) (removes (goal.at.edit-requires-clause-well_formed c).In_ok-edit_of)
    (between_some text c.args.from c.args.to c.requires.to c.requires.ordered)
    (c.in_ok-edit_of.ensures.end ∙ between_ends text c.args.from c.args.to c.requires.from c.requires.to (omega (arith, c.requires.ordered))) c.in_ok-edit_of.ensures.fragment_lines

pub edit-requires-clause-fits : goal.edit-requires-clause-fits
edit-requires-clause-fits c = rw (removes (goal.at.edit-requires-clause-fits c).In_ok-edit_of) (removal_fits c.args.self.now.text c.args.from c.args.to c.requires.from c.requires.to c.requires.ordered)

pub edit-requires-clause-splits_none : goal.edit-requires-clause-splits_none
edit-requires-clause-splits_none c =
    rw (removes (goal.at.edit-requires-clause-splits_none c).In_ok-edit_of)
    (subst (TakesWhole c.args.self.now.ranges c.args.from) (between_ends c.args.self.now.text c.args.from c.args.to c.requires.from c.requires.to (omega (arith, c.requires.ordered))) c.requires.whole)
