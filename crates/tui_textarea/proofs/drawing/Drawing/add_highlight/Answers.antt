use Rattle.std.proofs.Common.{List, [], ◌∷◌, ◌++◌, ap, ◌∙◌}
use Rattle.tui_textarea.specs.DrawingPrelude.{option_map, CustomHighlight, DrawingState, cell_of_position}
use Rattle.tui_textarea.proofs.drawing.Drawing.add_highlight.Goals as goal

pub returns-clause-ok : goal.returns-clause-ok
returns-clause-ok c =
    let inside = c.self.inside in
    let of : List CustomHighlight → DrawingState = λ highlights. record {
      look = inside.look;
      highlights = highlights;
      viewport = inside.viewport;
      corner = cell_of_position inside.corner;
      height = inside.height;
      caret = option_map cell_of_position inside.caret;
    } in
    ap of c.in_ok-push.ensures.items ∙ ap (λ (d : DrawingState). record d { highlights = d.highlights ++ c.args.highlight ∷ [] }) c.self.view_is
