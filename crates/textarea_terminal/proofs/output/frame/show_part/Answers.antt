use Rattle.std.proofs.Common.{◌≡◌, ℕ, ◌-◌, ◌<◌, ◌⊎◌, inl, inr, List, [], ◌∷◌, sym, ap, ◌∙◌, arith}
use Rattle.textarea_terminal.specs.PaintCells.{cluster_columns, shown_text}
use Rattle.textarea_terminal.specs.Pen.{in_look}
use Rattle.textarea_terminal.proofs.PaintFill.{shown-part, shown-blank}
use Rattle.textarea_terminal.proofs.ScreenPlain.{cluster_columns-blank}
use Rattle.textarea_terminal.proofs.output.frame.show_part.Goals as goal
use Rattle.textarea_terminal.proofs.output.frame.show_part.Goals.{then-part_columns-eq0-via-then-part_columns-eq0, then-part_columns-eq0-via-else-part_columns-eq0+then-part_columns-columns}

pub returns-then-part_columns-eq0 : goal.returns-then-part_columns-eq0
returns-then-part_columns-eq0 c =
    let other : (c.cluster_columns-part_columns.result ≡ 0) ⊎ (c.args.columns < c.cluster_columns-part_columns.result) =
    elim c.then-part_columns-eq0.branch [
      | then-part_columns-eq0-via-then-part_columns-eq0 w ↦ inl w.if-part_columns-eq0.true
      | then-part_columns-eq0-via-else-part_columns-eq0+then-part_columns-columns w ↦ inr w.if-part_columns-columns.true
    ] in
    let blank : shown_text c.args.symbol.now ≡ 32 ∷ [] =
    shown-blank c.args.symbol.now c.as_str-text.result.now c.cluster_columns-part_columns.result c.args.columns c.requires.widens (c.as_str-text.ensures.value ∙ c.in_ok-part.ensures)
    c.cluster_columns-part_columns.ensures.value c.requires.columns other in
    let one : cluster_columns (shown_text c.args.symbol.now) ≡ 1 = ap cluster_columns blank ∙ cluster_columns-blank in
    record {
      view = c.in_ok-show_blank.ensures ∙ ap (λ (text : List ℕ). in_look c.args.look text) (sym blank);
      left = omega (arith, one);
    }

pub returns : goal.returns
returns c =
    let part : shown_text c.args.symbol.now ≡ c.as_str-text.result.now =
    shown-part c.args.symbol.now c.as_str-text.result.now c.cluster_columns-part_columns.result c.args.columns c.requires.widens (c.as_str-text.ensures.value ∙ c.in_ok-part.ensures)
    c.cluster_columns-part_columns.ensures.value c.requires.columns (omega arith) (omega arith) in
    record {
      view = c.in_ok-show.ensures ∙ ap (λ (text : List ℕ). in_look c.args.look text) (sym part);
      left = ap (λ (n : ℕ). n - 1) (c.cluster_columns-part_columns.ensures.value ∙ ap cluster_columns (sym part));
    }
