use Rattle.std.proofs.Common.{filter}
use Rattle.textarea_paint.specs.Row.{is_no_wider}
use Rattle.textarea_paint.proofs.FrontLemmas.{longest_of_all}
use Rattle.textarea_paint.proofs.laws.longest_front_is_drawn.Goals as goal

pub returns : goal.returns
returns c = λ width clusters. longest_of_all width (filter (is_no_wider width) clusters)
