use Rattle.std.proofs.Common.{◌∙◌, ◌∷◌, [], ◌++◌, List, String, Global, ap, ap₂}
use Rattle.textarea_text.specs.Place.{line_of}
use Rattle.textarea_text.specs.Text.{joined}
use Rattle.tui_textarea.specs.Moves.{gone_to}
use Rattle.textarea_data.specs.declared.range.AtomicCursorBias.TheVariants.{Forward}
use Rattle.tui_textarea.specs.State.{new_state}
use Rattle.tui_textarea.specs.Units.{settled}
use Rattle.textarea_uses.specs.Password.{secret}
use Rattle.textarea_uses.proofs.Masking.{bullet_rows}
use Rattle.textarea_uses.proofs.password.PasswordField.masked.Goals as goal

pub returns : goal.returns
returns c =
    let line = c.in_ok-line.line in
    let items = c.in_ok-push.ensures.items ∙ ap (λ (before : List (String Global)). before ++ line ∷ []) c.new-lines.ensures.items in
    let of_line = c.line_of.ensures.characters ∙ ap (λ all. line_of all 0) c.lines.ensures.lines in
    let rows = bullet_rows (secret c.args.self.now.area) c.line_of.result.now line c.push.new.self.items of_line c.in_ok-line.ensures items in
    c.go_to.ensures ∙ ap₂ (λ state place. settled Forward (gone_to state place)) (c.in_ok-shown.ensures ∙ ap (λ all. new_state (joined all)) rows) c.cursor.ensures.value
