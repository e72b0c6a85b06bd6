use Rattle.textarea_data.specs.declared.range.AtomicCursorBias.TheVariants.{Forward}
use Rattle.tui_textarea.specs.Moves.{gone_to}
use Rattle.tui_textarea.specs.Units.{settled}
use Rattle.tui_textarea.proofs.MatchOrder.{match_starts_sorted}
use Rattle.tui_textarea.proofs.MatchSteps.{first_match, match_after}
use Rattle.tui_textarea.proofs.MatchWalk.{begins_with_first, goes_through}
use Rattle.tui_textarea.proofs.textarea.laws.matches_in_order.Goals as goal

pub returns-clause-order : goal.returns-clause-order
returns-clause-order c = match_starts_sorted c.args.area.now c.lines.result.now c.lines.ensures.lines

pub returns-clause-after : goal.returns-clause-after
returns-clause-after c = match_after c.args.area.now (match_starts_sorted c.args.area.now c.lines.result.now c.lines.ensures.lines)

pub returns-clause-first : goal.returns-clause-first
returns-clause-first c = first_match c.args.area.now

pub returns-clause-next : goal.returns-clause-next
returns-clause-next c =
    let state = c.args.area.now in
    let sorted = match_starts_sorted state c.lines.result.now c.lines.ensures.lines in
    goes_through state sorted (match_after state sorted)

pub returns-clause-begin : goal.returns-clause-begin
returns-clause-begin c = begins_with_first c.args.area.now (first_match (settled Forward (gone_to c.args.area.now (0, 0))))
