use Rattle.textarea_lines.proofs.rewrap.with_rows_of.Goals as goal

pub returns-clause-rows : goal.returns-clause-rows
returns-clause-rows c = c.in_ok-push_lines.ensures.rows

pub returns-clause-ticks : goal.returns-clause-ticks
returns-clause-ticks c = c.in_ok-push_lines.ensures.ticks
