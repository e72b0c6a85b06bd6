-- The result of a call that reads the front of bytes.
use Rattle.std.specs.Prelude.{◌≡◌, ℕ, List, Option, Some, None}

-- the result of a call, through `view`, is this value
abbrev pub Reads : {X Y : Type 0} → (X → Y) → Option X → Option Y → Type 0
Reads view None read = read ≡ None
Reads view (Some x) read = read ≡ Some (view x)

-- what is read after something else was
abbrev pub bound : {A B : Type 0} → (A × List ℕ → Option (B × List ℕ)) → Option (A × List ℕ) → Option (B × List ℕ)
bound g None = None
bound g (Some x) = g x
