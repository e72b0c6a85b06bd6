use Rattle.std.proofs.Common.{length}
use Rattle.textarea_files.proofs.disk.made_steps.+make_all.Given as goal

abbrev pub decreases-make_all : goal.decreases-make_all
decreases-make_all g l = length l.steps.now
