use Rattle.std.proofs.Common.{ℕ, List, ◌++◌, ◌∷◌, [], ap, sym, map, ◌∙◌}
use Rattle.std.specs.Str.{chars}
use Rattle.std.proofs.lemmas.List.{map-append}
use Rattle.textarea_text.specs.Text.{characters_of, lines_of}
use Rattle.tui_textarea.specs.State.{borrowed_characters}
use Rattle.tui_textarea.proofs.textarea.constructors.copy_lines.Goals as goal

pub loop-line-preserved : goal.loop-line-preserved
loop-line-preserved g c =
    let was = c.loop-line.invariant in
    let next = c.in-Some.ensures.goes.on was.finite in
    record {
      can = next.0;
      finite = next.1;
      lines = ap lines_of c.in_ok-push.ensures.items
          ∙ map-append characters_of c.loop-line.all.items (c.in_ok-from_str.field-0 ∷ [])
          ∙ ap (λ rows. rows ++ (characters_of c.in_ok-from_str.field-0 ∷ [])) was.lines
          ∙ ap (λ (t : List ℕ). map borrowed_characters c.loop-line.yielded ++ (chars t ∷ [])) c.in_ok-from_str.ensures.ok
          ∙ sym (map-append borrowed_characters c.loop-line.yielded (c.in-Some.line ∷ []));
    }
