use Rattle.std.proofs.lemmas.Grind.{common_steps}
use Rattle.std.proofs.Common.{arith}
use Rattle.textarea_screen.specs.Buffer.{is_between}
use Rattle.textarea_screen.proofs.ChangeLemmas.{Changes-more}
use Rattle.textarea_screen.proofs.BufferLemmas.{is_between-apart, is_between-next}
use Rattle.textarea_paint.proofs.paint.block.draw_border_row.Goals as goal

pub loop-x-preserved : goal.loop-x-preserved
loop-x-preserved c = grind (arith, common_steps, Changes-more, is_between, is_between-apart, is_between-next)
