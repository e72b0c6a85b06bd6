-- What holds after either end of a call, for callers.
use Rattle.std.proofs.Common.{◌⊎◌, inl, inr}
use Rattle.std.specs.Prelude.{Result, Ok, Err, OnOk, OnErr}

-- what holds of a value or of an error: one of both
pub either_end : {T E A B : Type 0} (result : Result T E) → OnOk result A → OnErr result B → A ⊎ B
either_end (Ok value) ok err = inl ok
either_end (Err error) ok err = inr err

-- what holds anyhow holds of an error
pub on_err : {T E : Type 0} (result : Result T E) (Fact : Type 0) → Fact → OnErr result Fact
on_err (Ok value) Fact holds = tt
on_err (Err error) Fact holds = holds
