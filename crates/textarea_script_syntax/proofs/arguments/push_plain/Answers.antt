use Rattle.std.proofs.Common.{◌∙◌, ◌∷◌, [], ℕ, List, Some, option_map, string_bytes, ap, sym}
use Rattle.textarea_script_syntax.specs.Escapes.{in_front}
use Rattle.textarea_script_syntax.proofs.Fronts.{line_plain}
use Rattle.textarea_script_syntax.proofs.arguments.push_plain.Goals as goal

pub returns : goal.returns
returns c =
    ap (option_map (λ lines. in_front (string_bytes c.args.line.now) lines)) (line_plain c.args.text.now c.utf8.text c.requires)
    ∙ ap (λ (text : List ℕ). Some (text ∷ [])) (sym c.in_ok-push_str.ensures.bytes)
