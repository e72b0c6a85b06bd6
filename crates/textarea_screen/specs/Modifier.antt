-- Sets of modifiers: each modifier is one bit of a number of 16 bits.
use Rattle.std.specs.Int.RustNames.{bit_or}
use Rattle.bitflags.specs.Sets.{without}
use Rattle.textarea_screen.specs.declared.screen.modifier.Modifier.{Modifier}

-- the modifiers of either set
abbrev pub union_of : Modifier → Modifier → Modifier
union_of a b = record { 0 = bit_or a.0 b.0 }

-- the modifiers of the first set that are not in the second
abbrev pub difference_of : Modifier → Modifier → Modifier
difference_of a b = record { 0 = without 16 a.0 b.0 }
