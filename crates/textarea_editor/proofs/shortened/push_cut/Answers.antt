use Rattle.std.proofs.Common.{◌∙◌, ◌∷◌, ◌++◌, List, ℕ, [], ap, append_assoc}
use Rattle.std.proofs.lemmas.Result.{on_ok_weaker}
use Rattle.textarea_text.specs.Text.{characters_of}
use Rattle.textarea_text.proofs.StringRows.{characters_of-pushed}
use Rattle.textarea_editor.proofs.shortened.push_cut.Goals as goal

pub returns : goal.returns
returns c =
    let pushed = characters_of-pushed c.args.text.now c.push.new.self 8230 c.in_ok-push.ensures.bytes in
    on_ok_weaker c.push_all.result
    (λ last. last ∙ ap (λ (l : List ℕ). l ++ c.args.end.now) pushed ∙ append_assoc (characters_of c.args.text.now) (8230 ∷ []) c.args.end.now)
    c.push_all.ensures
