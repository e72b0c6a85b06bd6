use Rattle.std.proofs.Common.{◌≡◌, ◌∷◌, [], ◌++◌, List, ℕ, ◌*◌, ◌^◌, ◌%◌, refl}
use Rattle.std.specs.Prelude.{bit_xor}
use Rattle.textarea_disk.specs.ContentHash.{hash_from}
use Rattle.textarea_disk.proofs.content_hash.hash_of_pieces.Goals as goal

hashed : (hash : ℕ) (a b : List ℕ) → hash_from (hash_from hash a) b ≡ hash_from hash (a ++ b)
hashed hash [] b = refl
hashed hash (byte ∷ a) b = hashed ((bit_xor hash byte * 1099511628211) % 2 ^ 64) a b

pub returns : goal.returns
returns c = hashed
