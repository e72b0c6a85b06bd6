-- What is behind a handle after a call that makes something behind it.
use Rattle.std.specs.Prelude.{ℕ, ◌≡◌, ◌≢◌, Option, IsSomeAnd}

-- with status 0 something of which `P` holds is behind the handle, and otherwise what was before
abbrev pub MakesBehind : {A : Type 0} → (A → Type 0) → Option A → ℕ → Option A → Type 0
MakesBehind P before status after = (status ≡ 0 → IsSomeAnd after P) × (status ≢ 0 → (status ≡ 2) × (after ≡ before))
