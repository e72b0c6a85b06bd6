-- Lines that are written into slices, one after another.
use Rattle.std.proofs.Common.{◌≡◌, ℕ, ◌+◌, List, [], ◌∷◌, length, arith}
use Rattle.std.specs.List.{concat}
use Rattle.textarea_c_data.specs.Copied.{ends_of, written_at}
use Rattle.textarea_c_data.proofs.Copied.{written_at_more}

-- after the first text the others lead to the same slice
pub text_out : (used count : ℕ) (out text : List ℕ) (rest : List (List ℕ)) (whole : List ℕ) → count ≡ length text
    → written_at used out (concat (text ∷ rest)) ≡ whole → written_at (used + count) (written_at used out text) (concat rest) ≡ whole
text_out used count out text rest whole is h =
    let after : used + count ≡ used + length text = omega arith in rw (written_at_more used (used + count) out text (concat rest) after) h

-- and so do their ends
pub end_out : (row used count : ℕ) (ends text : List ℕ) (rest : List (List ℕ)) (whole : List ℕ) → count ≡ length text
    → written_at row ends (ends_of used (text ∷ rest)) ≡ whole
    → written_at (row + 1) (written_at row ends ((used + count) ∷ [])) (ends_of (used + count) rest) ≡ whole
end_out row used count ends text rest whole is h =
    let after : row + 1 ≡ row + length ((used + count) ∷ []) = omega arith in
    rw (written_at_more row (row + 1) ends ((used + count) ∷ []) (ends_of (used + count) rest) after) (rw is h)
