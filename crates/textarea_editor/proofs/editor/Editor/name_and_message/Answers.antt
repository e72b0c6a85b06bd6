use Rattle.std.proofs.Common.{◌≡◌, ◌-◌, ◌∙◌, ℕ, List, ap, arith, length}
use Rattle.std.proofs.lemmas.Grind.{common_steps}
use Rattle.std.specs.Prelude.{string_bytes}
use Rattle.textarea_editor.proofs.editor.Editor.name_and_message.Goals as goal
use Rattle.textarea_editor.specs.Shortened.{fitted_name}
use Rattle.textarea_editor.specs.StatusWords.{after_name, columns_of_name, place_and_keys, shown_name}

pub returns : goal.returns
returns c =
    let editor = c.args.self.now in
    let room : c.max-room.result ≡ columns_of_name (c.args.columns - length (after_name editor c.args.columns) - 1) (length (place_and_keys editor)) =
    omega (arith, ap length c.in_ok-after.ensures, ap length c.in_ok-beside.ensures) in
    record {
      name = string_bytes c.in_ok-name.name;
      name_is = c.in_ok-name.ensures ∙ ap (λ (shown : List ℕ). fitted_name shown c.max-room.result) c.shown_name-shown.ensures ∙ ap (λ (n : ℕ). fitted_name (shown_name editor.name) n) room;
      words_are = grind (arith, common_steps, c.in_ok-text.ensures.ok, c.in_ok-after.ensures);
    }
