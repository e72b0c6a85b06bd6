use Rattle.std.proofs.Common.{ap, arith}
use Rattle.textarea_text.specs.Place.{Place}
use Rattle.textarea_lines.proofs.TouchedRows.{rows_after_splice, rows_before_splice}
use Rattle.textarea_lines.proofs.origins.touched_lines.Goals as goal

pub overflow_sub-cursor_before : goal.overflow_sub-cursor_before
overflow_sub-cursor_before c = omega (arith, (rows_before_splice c.args.change.now).0, ap (λ (p : Place). p.0) c.start-row.ensures, ap (λ (p : Place). p.0) c.cursor_before.ensures)

pub overflow_sub-cursor_after : goal.overflow_sub-cursor_after
overflow_sub-cursor_after c = omega (arith, (rows_after_splice c.args.change.now).0, ap (λ (p : Place). p.0) c.start-row.ensures, ap (λ (p : Place). p.0) c.cursor_after.ensures)

pub returns-clause-gone : goal.returns-clause-gone
returns-clause-gone c =
    omega (arith, (rows_before_splice c.args.change.now).1, c.in_ok-gone.ensures.size, ap (λ (p : Place). p.0) c.start-row.ensures, ap (λ (p : Place). p.0) c.cursor_before.ensures)

pub returns-clause-come : goal.returns-clause-come
returns-clause-come c =
    omega (arith, (rows_after_splice c.args.change.now).1, c.in_ok-come.ensures.size, ap (λ (p : Place). p.0) c.start-row.ensures, ap (λ (p : Place). p.0) c.cursor_after.ensures)
