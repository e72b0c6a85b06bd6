-- When an option is `None`, for any crate to cite.
use Rattle.std.proofs.Common.{◌≡◌, false, Option, Some, None, refl}
use Rattle.std.specs.Option.{is_some, option_map}

pub none_of_map : {A B : Type 0} (f : A → B) (found : Option A) → option_map f found ≡ None → found ≡ None
none_of_map f None none = refl
none_of_map f (Some x) none = (cc)

pub none_of_test : {A : Type 0} (found : Option A) → is_some found ≡ false → found ≡ None
none_of_test None none = refl
none_of_test (Some x) none = absurd (cc none)
