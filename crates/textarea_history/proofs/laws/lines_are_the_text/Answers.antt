use Rattle.textarea_text.proofs.Splices.{lines-joined}
use Rattle.textarea_history.proofs.laws.lines_are_the_text.Goals as goal

pub returns : goal.returns
returns c = lines-joined
