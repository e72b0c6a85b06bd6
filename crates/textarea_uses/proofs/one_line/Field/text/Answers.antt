use Rattle.std.proofs.Common.{◌≡◌, ◌≢◌, ◌==◌, ◌∙◌, ap, false, not, subst, sym, true}
use Rattle.std.specs.Prelude.{All}
use Rattle.std.proofs.lemmas.Result.{IfOk-weaker}
use Rattle.textarea_text.specs.Text.{characters_of}
use Rattle.tui_textarea.proofs.FragmentTexts.{each_written}
use Rattle.textarea_uses.specs.OneLine.{StaysInLine}
use Rattle.textarea_uses.proofs.one_line.Field.text.Goals as goal

pub returns : goal.returns
returns c =
    let field = c.args.self.now in
    let none = each_written StaysInLine (λ d. d ≢ 10) (λ d stays e. let no : false ≡ true = ap (λ n. not (n == 10)) (sym e) ∙ stays in cc) (λ stays. absurd (let no : false ≡ true = stays in cc)) field.area.document.text field.one_line in
    IfOk-weaker c.text.result _ (λ written. All (λ d. d ≢ 10) (characters_of written)) (λ written is. subst (All (λ d. d ≢ 10)) (sym is) none) c.text.ensures
