use Rattle.std.proofs.Common.{◌-◌, ◌<◌}
use Rattle.textarea_text.proofs.word.find_word_start_backward.Given as goal

abbrev pub invariant-widening : goal.invariant-widening
invariant-widening l = 0 < l.near

abbrev pub decreases-widening : goal.decreases-widening
decreases-widening l = l.start_column - l.near
