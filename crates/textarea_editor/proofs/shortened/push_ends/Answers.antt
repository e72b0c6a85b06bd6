use Rattle.std.proofs.Common.{◌∙◌, ◌∷◌, ◌++◌, List, ℕ, ap, append_assoc}
use Rattle.std.proofs.lemmas.Result.{on_ok_weaker}
use Rattle.textarea_text.specs.Text.{characters_of}
use Rattle.textarea_editor.proofs.shortened.push_ends.Goals as goal

pub returns : goal.returns
returns c =
    on_ok_weaker c.push_cut.result
    (λ last. last ∙ ap (λ (l : List ℕ). l ++ 8230 ∷ c.args.end.now) c.in_ok-push_all.ensures ∙ append_assoc (characters_of c.args.text.now) c.args.start.now (8230 ∷ c.args.end.now))
    c.push_cut.ensures
