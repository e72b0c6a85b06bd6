use Rattle.textarea_editor.proofs.EventRuns.{run_made}
use Rattle.textarea_editor.proofs.laws.run_makes_the_calls_of_its_events.Goals as goal

pub returns : goal.returns
returns c = run_made
