use Rattle.std.proofs.Common.{ℕ, List, [], ◌∷◌, rules, subst, sym}
use Rattle.textarea_calls.specs.declared.call.Call.TheVariants.{ReplaceAll}
use Rattle.textarea_editor.proofs.Drafts.{fails_first, on_err}
use Rattle.textarea_editor.proofs.editor.Editor.replace_all.Goals as goal
use Rattle.textarea_editor.specs.Draft.{FailsIn, Makes}
use Rattle.textarea_editor.specs.Effects.{optional_bytes}
use Rattle.textarea_editor.specs.Patterns.{borrowed}
use Rattle.textarea_editor.specs.declared.draft.Draft.{Draft}

pub returns : goal.returns
returns c =
    let old = c.args.self.now in
    let replaced = subst (λ (t : List ℕ). Makes old.draft (ReplaceAll (borrowed t) ∷ []) c.make.new.self) c.text_or_empty-text.ensures c.in_ok-make.ensures.ok in
    let made = subst (λ (d : Draft). Makes old.draft (ReplaceAll (borrowed (optional_bytes old.replacement)) ∷ []) d) (sym c.end_replacing.ensures.draft) replaced in
    search (rules, made)

pub returns-in_err-count : goal.returns-in_err-count
returns-in_err-count c =
    let failed = on_err c.from_residual.result (fails_first c.args.self.now.draft (ReplaceAll (borrowed (optional_bytes c.args.self.now.replacement)) ∷ [])) in
    search (rules, failed)

pub returns-in_err-make : goal.returns-in_err-make
returns-in_err-make c =
    let failed = on_err c.from_residual-in_err-make.result
    (subst (λ (t : List ℕ). FailsIn c.args.self.now.draft (ReplaceAll (borrowed t) ∷ []) c.make.new.self) c.text_or_empty-text.ensures c.in_err-make.ensures.err) in
    search (rules, failed)
