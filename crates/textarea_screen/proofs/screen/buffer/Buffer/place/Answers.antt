use Rattle.std.proofs.lemmas.Grind.{common_steps}
use Rattle.std.proofs.Common.{arith}
use Rattle.textarea_screen.proofs.BufferLemmas.{place_in-below}
use Rattle.textarea_screen.proofs.screen.buffer.Buffer.place.Goals as goal

pub returns-clause-bound : goal.returns-clause-bound
returns-clause-bound c = grind (arith, common_steps, place_in-below)
