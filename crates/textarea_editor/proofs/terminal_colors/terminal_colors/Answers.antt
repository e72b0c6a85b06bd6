use Rattle.std.proofs.Common.{◌∙◌, refl, sym}
use Rattle.std.proofs.lemmas.Bool.{eqb-true}
use Rattle.std.proofs.lemmas.List.{nil_from_length}
use Rattle.textarea_editor.proofs.terminal_colors.terminal_colors.Goals as goal

pub returns-then-has_true : goal.returns-then-has_true
returns-then-has_true c =
    let all = c.has_true.ensures.0 c.if-has_true.true in
    let empty = nil_from_length c.args.no_color.now (eqb-true _ _ (sym c.is_empty.ensures ∙ c.if-not-is_empty.false)) in
    record {
      unwanted = λ some. absurd (some empty);
      all = λ none has. refl;
      indexed = λ none no has. absurd (no all);
      none = λ none no other has. absurd (no all);
      others = λ none no other has. absurd (no all);
    }
