use Rattle.std.proofs.Common.{◌≡◌, ◌≢◌, ◌∙◌, false, refl, sym, true}
use Rattle.std.specs.Str.{chars}
use Rattle.textarea_text.specs.Fragment.{fragment_text}
use Rattle.textarea_uses.proofs.save.undo_to.Goals as goal

pub undoing-init : goal.undoing-init
undoing-init c = (((λ h. h), (λ h. h)), c.requires)

pub undoing-smaller : goal.undoing-smaller
undoing-smaller c = c.undos_reach_back.ensures.fewer c.undo.new.self (sym c.in_ok-undone.ensures.undone ∙ c.if-undone.true) c.in_ok-undone.ensures.ok

pub undoing-preserved : goal.undoing-preserved
undoing-preserved c =
    let other : fragment_text c.undoing.area.document.text ≢ chars c.args.wanted.now = λ is. let no : false ≡ true = sym c.if-there.false ∙ c.in_ok-there.ensures.1 is in cc in
    let step = c.undos_reach_back.ensures.before (chars c.args.wanted.now) c.undo.new.self (sym c.in_ok-undone.ensures.undone ∙ c.if-undone.true) c.in_ok-undone.ensures.ok other in
    (((λ h. step.0 (c.undoing.invariant.0.0 h)), (λ h. c.undoing.invariant.0.1 (step.1 h))), c.undos_reach_back.ensures.editable c.undo.new.self c.in_ok-undone.ensures.ok ∙ c.undoing.invariant.1)

pub returns-then-there-clause-reached : goal.returns-then-there-clause-reached
returns-then-there-clause-reached c = ((λ t. c.undoing.invariant.0.1 (c.undos_reach_back.ensures.here _ (c.in_ok-there.ensures.0 c.if-there.true))), (λ h. refl))

pub returns-in-undoing-clause-reached : goal.returns-in-undoing-clause-reached
returns-in-undoing-clause-reached c =
    let other : fragment_text c.undoing.area.document.text ≢ chars c.args.wanted.now = λ is. let no : false ≡ true = sym c.if-there.false ∙ c.in_ok-there.ensures.1 is in cc in
    let none = c.undos_reach_back.ensures.last (chars c.args.wanted.now) c.undoing.invariant.1 (sym c.in_ok-undone.ensures.undone ∙ c.if-undone.false) other in
    ((λ t. absurd (let no : false ≡ true = t in cc)), (λ h. absurd (none (c.undoing.invariant.0.0 h))))
