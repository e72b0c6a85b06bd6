use Rattle.std.proofs.Common.{◌≡◌, ◌∙◌, Bool, true, false, [], ◌∷◌, ap, refl, rules, subst}
use Rattle.textarea_calls.specs.declared.call.Call.{Call}
use Rattle.textarea_editor.proofs.editor.Editor.set_numbers.Goals as goal
use Rattle.textarea_editor.specs.Draft.{Makes, plain_call}
use Rattle.textarea_editor.specs.EventCalls.{numbers_call}

plain_numbers : (numbers : Bool) → plain_call (numbers_call numbers) ≡ numbers_call numbers
plain_numbers true = refl
plain_numbers false = refl

pub returns : goal.returns
returns c =
    let made = subst (λ (made : Call). Makes c.args.self.now.draft (made ∷ []) c.make.new.self) (ap plain_call c.numbers_call.ensures ∙ plain_numbers c.args.numbers) c.in_ok-make.ensures.ok in
    search (rules, made)
