use Rattle.std.proofs.Common.{[], ◌∷◌, refl}
use Rattle.textarea_terminal.specs.Control.Control.{EndUpdate}
use Rattle.textarea_terminal.proofs.output.whole.end_update.Goals as goal

pub returns-in_ok-extend_from_slice : goal.returns-in_ok-extend_from_slice
returns-in_ok-extend_from_slice c = record {
  controls = EndUpdate ∷ [];
  bytes = c.in_ok-extend_from_slice.ensures.items;
  with_ranges = (refl, λ terminal updating. refl, λ still. cc (c.if-is_updating.true, still), refl, refl);
}
