-- Where a splice moves the positions of a text.
use Rattle.std.specs.Prelude.{◌≡◌, ◌+◌, ◌-◌, ◌==◌, nat_lt, nat_le, ◌&&◌, ◌||◌, Bool, ℕ, cond, List, length, take, drop, if◌then◌else◌}
use Rattle.textarea_text.specs.Text.{Symbol}
use Rattle.textarea_text.specs.Place.{Place, IsPlace, index_of}
use Rattle.textarea_text.specs.Splice.{Splice, applied, place_after, place_before}

-- whether the one position is before the other or the same
abbrev pub is_up_to : Place → Place → Bool
is_up_to one other = nat_lt one.0 other.0 || ((one.0 == other.0) && nat_le one.1 other.1)

-- the position, moved with the text after the old one to the new one: in the old one's row it keeps
-- its distance in columns; in a row below it keeps its distance in rows, and its column
abbrev pub shifted : Place → Place → Place → Place
shifted old new place =
    if place.0 == old.0 then (new.0, new.1 + (place.1 - old.1))
    else (new.0 + (place.0 - old.0), place.1)

-- Where the splice moves a position at or after its end: the text after `place_before` moves to
-- `place_after`. A position at or before the splice's start stays.
abbrev pub carried_place : Splice → Place → Place
carried_place splice place = shifted (place_before splice) (place_after splice) place

-- the same for indices: plus the number of inserted symbols, or minus that of removed ones
abbrev pub carried_index : Splice → ℕ → ℕ
carried_index splice index =
    cond splice.inserts (index + length splice.symbols) (index - length splice.symbols)

-- the position stays in the text after the splice, with the same symbols before it
pub record Stays (text : List Symbol) (splice : Splice) (place : Place) : Type 0 where
  pub is_place : IsPlace (applied text splice) place
  pub index : index_of (applied text splice) place ≡ index_of text place
  pub before : take (index_of text place) (applied text splice) ≡ take (index_of text place) text

-- the position moves with the text after it, which has the same symbols after the splice
pub record FollowsText (text : List Symbol) (splice : Splice) (place : Place) : Type 0 where
  pub is_place : IsPlace (applied text splice) (carried_place splice place)
  pub index : index_of (applied text splice) (carried_place splice place)
      ≡ carried_index splice (index_of text place)
  pub after : drop (index_of (applied text splice) (carried_place splice place)) (applied text splice)
      ≡ drop (index_of text place) text
