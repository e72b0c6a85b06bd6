-- A hash of bytes: FNV-1a with 64 bits (Fowler, Noll and Vo).
use Rattle.std.specs.Prelude.{ℕ, ◌*◌, ◌^◌, ◌%◌, List, [], ◌∷◌, bit_xor}

-- the hash of bytes after those of a hash: each byte is put into the hash by `xor`, and that is multiplied by 2^40 + 435 modulo 2^64
abbrev pub hash_from : ℕ → List ℕ → ℕ
hash_from hash [] = hash
hash_from hash (byte ∷ bytes) = hash_from ((bit_xor hash byte * 1099511628211) % 2 ^ 64) bytes
