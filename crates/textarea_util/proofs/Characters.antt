-- How many characters a text has, for any crate to cite.
use Rattle.std.proofs.Common.{ℕ, ◌≤◌, List, length, ap, arith}
use Rattle.std.proofs.lemmas.Str.{encodes-chars, length-le-encodes}
use Rattle.std.specs.Str.{IsUtf8, chars}

-- at most as many as bytes
pub length-chars : (text : List ℕ) → IsUtf8 text → length (chars text) ≤ length text
length-chars text utf8 = omega (arith, length-le-encodes (chars text), ap length (encodes-chars text utf8))
