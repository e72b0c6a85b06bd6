use Rattle.std.proofs.Common.{[], ◌∷◌, refl}
use Rattle.textarea_terminal.specs.Control.Control.{BeginUpdate}
use Rattle.textarea_terminal.proofs.output.brush.begin_update.Goals as goal

pub returns-in_ok-extend_from_slice : goal.returns-in_ok-extend_from_slice
returns-in_ok-extend_from_slice c = record { controls = BeginUpdate ∷ []; bytes = c.in_ok-extend_from_slice.ensures.items; with_ranges = (refl, λ terminal begun. refl, refl, refl) }
