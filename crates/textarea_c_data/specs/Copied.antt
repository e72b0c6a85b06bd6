-- How items are written into the slice of a caller.
use Rattle.std.specs.Prelude.{ℕ, ◌≡◌, ◌+◌, List, [], ◌∷◌, ◌++◌, length, take, drop, min}

-- the items over the slice from its start on, as many as there is room for
abbrev pub copied_over : {A : Type 0} → List A → List A → List A
copied_over out [] = out
copied_over [] (x ∷ items) = []
copied_over (o ∷ out) (x ∷ items) = x ∷ copied_over out items

-- the items are over the slice from its start on, and this is the number of all
abbrev pub IsCopiedOut : {A : Type 0} → List A → List A → ℕ → List A → Type 0
IsCopiedOut old new needed items = (new ≡ copied_over old items) × (needed ≡ length items)

-- the items over the slice from this index on
abbrev pub written_at : {A : Type 0} → ℕ → List A → List A → List A
written_at start out items = take start out ++ copied_over (drop start out) items

-- the index after each of the lists, where the first begins at `start`
abbrev pub ends_of : {A : Type 0} → ℕ → List (List A) → List ℕ
ends_of start [] = []
ends_of start (items ∷ rest) = (start + length items) ∷ ends_of (start + length items) rest

-- the number, or the greatest one of 64 bits
abbrev pub saturated : ℕ → ℕ
saturated number = min number 18446744073709551615
