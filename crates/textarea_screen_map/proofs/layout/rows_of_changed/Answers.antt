use Rattle.std.proofs.Common.{◌≡◌, ◌∷◌, ◌++◌, [], List, ap, chars, subst, sym, ◌∙◌}
use Rattle.textarea_wrap.specs.RowsView.{RowsView}
use Rattle.textarea_screen_map.specs.LineRows.{AreRowsOf}
use Rattle.textarea_screen_map.proofs.Layouts.{AreRowsOfLine-text}
use Rattle.textarea_screen_map.proofs.layout.rows_of_changed.Goals as goal

pub returns-clause-rows : goal.returns-clause-rows
returns-clause-rows c =
    let wrapped = c.in_ok-wrapped.wrapped in
    let one : c.push.new.self.items ≡ wrapped ∷ [] = c.in_ok-push.ensures.items ∙ ap (λ (t : List RowsView). t ++ wrapped ∷ []) c.in_ok-rows.ensures.items in
    let right = AreRowsOfLine-text c.args.wrapping c.args.line.now wrapped c.utf8.line c.in_ok-wrapped.ensures.rows c.in_ok-wrapped.ensures.marks c.in_ok-wrapped.ensures.short in
    subst (λ (t : List RowsView). AreRowsOf c.args.wrapping (chars c.args.line.now ∷ []) t) (sym one) (right, tt)
