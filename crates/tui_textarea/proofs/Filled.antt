-- Whether there is a symbol, as the code tests it.
use Rattle.std.proofs.Common.{◌≡◌, ◌↔◌, Bool, true, false, IsTrue, List, [], ◌∷◌, refl}
use Rattle.textarea_document.specs.Edits.{has_symbols}
use Rattle.textarea_text.specs.Text.{Symbol}

pub filled_unless : (empty : Bool) (text : List Symbol) → (IsTrue empty ↔ (text ≡ [])) → empty ≡ false → has_symbols text ≡ true
filled_unless true text both denied = cc denied
filled_unless false [] both denied = cc (both.1 refl)
filled_unless false (symbol ∷ symbols) both denied = refl

pub none_unless : (some : Bool) (text : List Symbol) → some ≡ has_symbols text → some ≡ false → text ≡ []
none_unless some [] reported denied = refl
none_unless true (symbol ∷ symbols) reported denied = cc denied
none_unless false (symbol ∷ symbols) reported denied = cc reported
