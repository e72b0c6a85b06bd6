use Rattle.std.proofs.Common.{◌∙◌, ℕ, List, ap}
use Rattle.std.proofs.lemmas.Result.{IfOk-weaker}
use Rattle.textarea_editor.proofs.draft.Draft.line_break.Goals as goal
use Rattle.textarea_editor.specs.Indents.{line_break_at}
use Rattle.textarea_text.specs.Place.{Place}
use Rattle.textarea_text.specs.Text.{lines}

pub returns : goal.returns
returns c =
    IfOk-weaker c.line_break_at.result _ _
    (λ text is. is ∙ ap (λ (rows : List (List ℕ)). line_break_at rows c.edit_start-place.result) c.lines.ensures.lines
    ∙ ap (λ (place : Place). line_break_at (lines c.args.self.now.area.document.text) place) c.edit_start-place.ensures)
    c.line_break_at.ensures
