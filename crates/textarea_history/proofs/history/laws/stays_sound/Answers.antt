use Rattle.std.proofs.Common.{arith, refl}
use Rattle.textarea_history.proofs.LogLaws.{sound_edited, sound_redone, sound_undone}
use Rattle.textarea_history.proofs.history.laws.stays_sound.Goals as goal

pub returns : goal.returns
returns c = record {
  fresh = λ text maximum. record { undo = tt; redo = tt; bounded = omega arith; marks = refl };
  edited = sound_edited;
  undone = sound_undone;
  redone = sound_redone;
}
