use Rattle.std.proofs.Common.{◌≡◌, ◌∙◌, ap}
use Rattle.textarea_text.specs.declared.util.Pos.{Pos}
use Rattle.textarea_history.specs.Edit.{end_of_kind, splice_of}
use Rattle.memory_cases.proofs.Edits.{copy_splice, copy_well_formed}
use Rattle.memory_cases.proofs.history.recorded.edit_of.Goals as goal

-- the splice and the end of the edit, with the plan's positions
splice_is : (c : goal.After-new) → c.new.result.splice ≡ splice_of c.in_ok-kind.kind c.args.plan.now.before c.args.plan.now.after
splice_is c =
    c.new.ensures.splice
    ∙ ap (λ (p : Pos). splice_of c.in_ok-kind.kind (p.row, p.col) (c.new-after.result.row, c.new-after.result.col)) c.new-before.ensures
    ∙ ap (λ (p : Pos). splice_of c.in_ok-kind.kind c.args.plan.now.before (p.row, p.col)) c.new-after.ensures

end_is : (c : goal.After-new) → c.new.result.end ≡ end_of_kind c.in_ok-kind.kind c.args.plan.now.before c.args.plan.now.after
end_is c =
    c.new.ensures.end
    ∙ ap (λ (p : Pos). end_of_kind c.in_ok-kind.kind (p.row, p.col) (c.new-after.result.row, c.new-after.result.col)) c.new-before.ensures
    ∙ ap (λ (p : Pos). end_of_kind c.in_ok-kind.kind c.args.plan.now.before (p.row, p.col)) c.new-after.ensures

pub returns-clause-splice : goal.returns-clause-splice
returns-clause-splice c =
    let plan = c.args.plan.now in
    splice_is c ∙ copy_splice plan.kind c.in_ok-kind.kind plan.before plan.after c.in_ok-kind.ensures.cases

pub returns-clause-well_formed : goal.returns-clause-well_formed
returns-clause-well_formed c =
    let plan = c.args.plan.now in
    copy_well_formed plan.kind c.in_ok-kind.kind plan.before plan.after c.new.result c.in_ok-kind.ensures.cases c.requires.some c.requires.fragment_lines c.requires.ends (splice_is c) (end_is c) c.new.ensures.fragment_lines
