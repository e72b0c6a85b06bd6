-- The stored position of the last in-place change, as the lines change.
use Rattle.std.proofs.Common.{◌≡◌, ℕ, ◌<◌, List, length, String, sym, ap, refl, ◌∙◌, arith, subst}
use Rattle.std.proofs.lemmas.List.{length-map}
use Rattle.textarea_text.specs.declared.util.Pos.{Pos}
use Rattle.textarea_text.specs.Offset.{offset_at}
use Rattle.textarea_text.specs.Place.{Place, IsPlaceOf}
use Rattle.textarea_text.specs.Text.{characters_of, lines_of}
use Rattle.textarea_lines.specs.Stored.{IsPlaceAtByte}

-- a position with its offset
abbrev pub pos : Place → ℕ → Pos
pos place offset = record { row = place.0; col = place.1; offset = offset }

-- a position whose offset is known
pub located_at :
    {Z : Type 0} (items : List (String Z)) (found : Pos) (place start : Place) (offset : ℕ) → found ≡ pos place offset → place ≡ start
    → IsPlaceOf (lines_of items) start → offset ≡ offset_at (lines_of items) start → IsPlaceAtByte items found
located_at items found place start offset is same h e =
    subst (IsPlaceAtByte items) (sym is)
    (record {
      place = subst (IsPlaceOf (lines_of items)) (sym same) h;
      offset = e ∙ ap (offset_at (lines_of items)) (sym same);
    })

pub located_first : {Z : Type 0} (items : List (String Z)) (found : Pos) → found ≡ pos (0, 0) 0 → 0 < length items → IsPlaceAtByte items found
located_first items found is some =
    located_at items found (0, 0) (0, 0) 0 is refl (omega (arith, some, length-map items characters_of), omega arith) refl

-- copies of the lines
pub located_copied : {Z : Type 0} (old copies : List (String Z)) (found again : Pos) → lines_of copies ≡ lines_of old → again ≡ pos (found.row, found.col) found.offset → IsPlaceAtByte old found → IsPlaceAtByte copies again
located_copied old copies found again same is h =
    located_at copies again (found.row, found.col) (found.row, found.col) found.offset is refl (rw same h.place) (rw same h.offset)
