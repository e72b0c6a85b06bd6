use Rattle.std.proofs.Common.{ℕ, ◌-◌, List, sym, ap, ◌∙◌}
use Rattle.textarea_terminal.specs.PaintCells.{cluster_columns}
use Rattle.textarea_terminal.specs.Pen.{in_look}
use Rattle.textarea_terminal.proofs.PaintFill.{shown-whole}
use Rattle.textarea_terminal.proofs.output.frame.show_cluster.Goals as goal

pub returns-clause-view : goal.returns-clause-view
returns-clause-view c =
    c.in_ok-show.ensures ∙ ap (λ (text : List ℕ). in_look c.args.look text) (sym (shown-whole c.args.symbol.now (sym c.can_widen.ensures.value ∙ c.if-can_widen.false)))

pub returns-clause-left : goal.returns-clause-left
returns-clause-left c =
    ap (λ (n : ℕ). n - 1) (c.requires.columns ∙ ap cluster_columns (sym (shown-whole c.args.symbol.now (sym c.can_widen.ensures.value ∙ c.if-can_widen.false))))
