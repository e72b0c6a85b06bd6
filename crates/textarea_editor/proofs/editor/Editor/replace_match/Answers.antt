use Rattle.std.proofs.Common.{ℕ, List, [], ◌∷◌, rules, subst, sym}
use Rattle.textarea_calls.specs.declared.call.Call.TheVariants.{ReplaceMatch}
use Rattle.textarea_editor.proofs.Drafts.{on_err}
use Rattle.textarea_editor.proofs.editor.Editor.replace_match.Goals as goal
use Rattle.textarea_editor.specs.Draft.{FailsIn, Makes}
use Rattle.textarea_editor.specs.Effects.{optional_bytes}
use Rattle.textarea_editor.specs.Patterns.{borrowed}
use Rattle.textarea_editor.specs.declared.draft.Draft.{Draft}

pub returns : goal.returns
returns c =
    let old = c.args.self.now in
    let replaced = subst (λ (t : List ℕ). Makes old.draft (ReplaceMatch (borrowed t) ∷ []) c.make.new.self) c.text_or_empty-text.ensures c.in_ok-is_replaced.ensures.ok in
    let made = subst (λ (d : Draft). Makes old.draft (ReplaceMatch (borrowed (optional_bytes old.replacement)) ∷ []) d) (sym c.pass_match.ensures.draft) replaced in
    search (rules, made)

pub returns-in_err-is_replaced : goal.returns-in_err-is_replaced
returns-in_err-is_replaced c =
    let failed = on_err c.from_residual.result
    (subst (λ (t : List ℕ). FailsIn c.args.self.now.draft (ReplaceMatch (borrowed t) ∷ []) c.make.new.self) c.text_or_empty-text.ensures c.in_err-is_replaced.ensures.err) in
    search (rules, failed)
