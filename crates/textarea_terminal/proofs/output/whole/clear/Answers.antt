use Rattle.std.proofs.Common.{[], ◌∷◌, refl}
use Rattle.textarea_terminal.specs.Control.Control.{BeginUpdate, SelectAscii, ResetOrigin, ResetColumnMargins, ResetRowMargins, ResetInsertion, SetWrapping, SetPen, EraseAll}
use Rattle.textarea_terminal.proofs.output.whole.clear.Goals as goal

pub returns : goal.returns
returns c = record {
  controls = BeginUpdate ∷ SelectAscii ∷ ResetOrigin ∷ ResetColumnMargins ∷ ResetRowMargins ∷ ResetInsertion ∷ SetWrapping ∷ SetPen [] ∷ EraseAll ∷ [];
  bytes = c.in_ok-extend_from_slice.ensures.items;
  with_ranges = (refl, λ terminal. refl, refl, refl);
}
