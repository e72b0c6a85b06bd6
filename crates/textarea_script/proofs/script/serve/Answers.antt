use Rattle.textarea_script.proofs.Statuses.{exit}
use Rattle.textarea_script.proofs.script.serve.Goals as goal

pub returns : goal.returns
returns g c = exit c.run_script.result c.status.result c.status.ensures.status c.run_script.ensures c.status.ensures.quiet
