use Rattle.std.proofs.Common.{◌≡◌, ◌-◌, ◌==◌, ◌<◌, ℕ, cond, false, sym, ap, subst, ◌∙◌, arith}
use Rattle.std.proofs.lemmas.Bool.{cond-false, cond-true, eq-eqb}
use Rattle.std.proofs.lemmas.Bool.Decides.{nat_tests}
use Rattle.textarea_highlight.specs.Seen.{ShowsBetween}
use Rattle.textarea_view.specs.Prelude.{IsDrawnAs, line_view}
use Rattle.textarea_view.proofs.Visible.{drawn_part}
use Rattle.textarea_view.proofs.scene.row_context.show_visible.Goals as goal
use Rattle.textarea_view.proofs.scene.row_context.show_visible.Goals.{In_ok-part}

-- the part is drawn as the row, from the column at which the row or the part begins
drawn : (c : In_ok-part) (left : ℕ) → left ≡ cond (c.in_ok-part.part.from == 0) c.args.rows.left ((c.args.rows.left - c.args.number_columns) - c.in_ok-part.part.column) →
    IsDrawnAs c.args.highlighter.now c.args.rows left (line_view c.show_between_in.new.line)
drawn c left is =
    let h = c.args.highlighter.now in
    let part = c.in_ok-part.part in
    let line = line_view c.show_between_in.new.line in
    drawn_part h c.args.rows c.in-Some.right c.args.number_columns part line left c.in-Some.ensures.left c.in-Some.ensures.right c.requires
    (subst (λ n. ShowsBetween h n (c.in-Some.right - c.args.number_columns) part line) c.saturating_sub-left.ensures
    (subst (λ n. ShowsBetween h c.saturating_sub-left.result n part line) c.saturating_sub-right.ensures c.in_ok-part.ensures.displayed))
    is

pub returns-then-part-eq0 : goal.returns-then-part-eq0
returns-then-part-eq0 c =
    drawn (goal.at.returns-then-part-eq0 c).In_ok-part c.args.rows.left (sym (cond-true (c.in_ok-part.part.from == 0) _ _ (eq-eqb c.in_ok-part.part.from 0 (omega (arith, c.if-part-eq0.true)))))

pub returns-else-part-eq0 : goal.returns-else-part-eq0
returns-else-part-eq0 c =
    let part = c.in_ok-part.part in
    let later : 0 < part.from = omega (arith, c.if-part-eq0.false) in
    let from : (part.from == 0) ≡ false = grind (arith, nat_tests) in
    drawn (goal.at.returns-else-part-eq0 c).In_ok-part (c.saturating_sub-left.result - part.column) (ap (λ n. n - part.column) c.saturating_sub-left.ensures ∙ sym (cond-false (part.from == 0) _ _ from))
