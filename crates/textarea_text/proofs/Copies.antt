-- Copies of some lines hold the same characters.
use Rattle.std.proofs.Common.{◌≡◌, List, [], ◌∷◌, ap, refl, ◌∙◌, String, string_bytes}
use Rattle.textarea_text.specs.Prelude.{AllZip, chars, lines_of}

pub lines_copied : {Z : Type 0} (fragment_lines copies : List (String Z)) → AllZip (λ s t. string_bytes t ≡ string_bytes s) fragment_lines copies → lines_of copies ≡ lines_of fragment_lines
lines_copied [] [] h = refl
lines_copied [] (copy ∷ copies) h = absurd h
lines_copied (fragment_line ∷ fragment_lines) [] h = absurd h
lines_copied (fragment_line ∷ fragment_lines) (copy ∷ copies) h =
    ap (λ t. chars t ∷ lines_of copies) h.0 ∙ ap (λ t. chars (string_bytes fragment_line) ∷ t) (lines_copied fragment_lines copies h.1)
