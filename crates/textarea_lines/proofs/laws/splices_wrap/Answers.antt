use Rattle.textarea_lines.proofs.Wrapping.{is_spliced}
use Rattle.textarea_lines.proofs.laws.splices_wrap.Goals as goal

pub returns : goal.returns
returns c = is_spliced c.one_map.ensures
