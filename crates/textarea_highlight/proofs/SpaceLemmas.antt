-- Texts of spaces.
use Rattle.std.proofs.Common.{◌≡◌, ℕ, zero, suc, ◌∷◌, ◌++◌, replicate, refl, ap, ◌∙◌, arith, encode_utf8_all}
use Rattle.std.proofs.lemmas.Str.{encode_ascii}

pub spaces_encoded : (n : ℕ) → encode_utf8_all (replicate n 32) ≡ replicate n 32
spaces_encoded zero = refl
spaces_encoded (suc n) =
    ap (λ bs. bs ++ encode_utf8_all (replicate n 32)) (encode_ascii 32 (omega arith)) ∙ ap (λ ys. 32 ∷ ys) (spaces_encoded n)
