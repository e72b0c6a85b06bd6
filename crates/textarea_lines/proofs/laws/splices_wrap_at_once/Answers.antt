use Rattle.textarea_lines.proofs.WrappingOnce.{wraps_at_once}
use Rattle.textarea_lines.proofs.laws.splices_wrap_at_once.Goals as goal

pub returns : goal.returns
returns c = wraps_at_once c.one_map.ensures
