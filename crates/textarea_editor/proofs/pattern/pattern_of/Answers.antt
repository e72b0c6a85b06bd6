use Rattle.std.proofs.Common.{◌∙◌, ◌++◌, ℕ, List, ap, sym}
use Rattle.std.proofs.lemmas.Result.{IfOk-weaker}
use Rattle.textarea_editor.proofs.Searches.{marked_text}
use Rattle.textarea_editor.proofs.pattern.pattern_of.Goals as goal
use Rattle.textarea_editor.specs.Patterns.{case_mark}

pub returns : goal.returns
returns c =
    let some = sym c.is_empty.ensures ∙ c.if-is_empty.false in
    IfOk-weaker c.case_marked.result _ _
    (λ marked is. is ∙ ap (λ (l : List ℕ). case_mark c.args.options.keeps_case ++ l) c.in_ok-pattern.ensures ∙ marked_text c.args.options c.args.text.now some)
    c.case_marked.ensures
