-- The texts that C passes, one after another in one slice.
use Rattle.std.specs.Prelude.{ℕ, ◌&&◌, nat_le, List, [], ◌∷◌, length, slice_range, Option, Some, None, if◌then◌else◌}
use Rattle.std.specs.Str.{is_utf8}

-- the bytes, if they are UTF-8
unfoldable pub text_in : List ℕ → Option (List ℕ)
text_in bytes = if is_utf8 bytes then Some bytes else None

-- the items from one index up to another, if the list has these
unfoldable pub items_between : {A : Type 0} → List A → ℕ → ℕ → Option (List A)
items_between items start end = if nat_le start end && nat_le end (length items) then Some (slice_range items start end) else None

-- the text from one index up to another
abbrev pub text_at : Option (List ℕ) → Option (List ℕ)
text_at None = None
text_at (Some bytes) = text_in bytes

abbrev pub text_between : List ℕ → ℕ → ℕ → Option (List ℕ)
text_between bytes start end = text_at (items_between bytes start end)

-- the first of a list, and the others, if all are there
abbrev pub all_read : {A : Type 0} → Option A → Option (List A) → Option (List A)
all_read None others = None
all_read (Some one) None = None
all_read (Some one) (Some others) = Some (one ∷ others)

-- the list, if it has an item
abbrev pub some_of : {A : Type 0} → Option (List A) → Option (List A)
some_of None = None
some_of (Some []) = None
some_of (Some (item ∷ items)) = Some (item ∷ items)
