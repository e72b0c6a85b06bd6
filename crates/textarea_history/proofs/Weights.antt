-- The bytes of an edit's symbols.
use Rattle.std.proofs.Common.{◌≡◌, ◌<◌, ◌+◌, ◌-◌, List, [], ◌∷◌, length, take, drop, Bool, true, false, cond, sym, ap, ◌∙◌, arith, get_or, reverse, String, string_len}
use Rattle.std.proofs.lemmas.List.{take_all}
use Rattle.textarea_history.specs.Prelude.{characters, characters_of, text_of, size_of, weight}
use Rattle.textarea_text.proofs.Sizes.{weight_of_line, weight_of_text, weight-reverse}

-- the lines of a fragment without the first
pub fragment_weight : {Z : Type 0} (fragment_lines : List (String Z)) (first : String Z) → 0 < length fragment_lines → first ≡ get_or fragment_lines 0 first →
    weight (text_of fragment_lines) ≡ string_len first + size_of (take (length fragment_lines - 1) (drop 1 fragment_lines))
fragment_weight [] first some e = absurd (omega arith)
fragment_weight (fragment_line ∷ rest) first some e =
    weight_of_text fragment_line rest
    ∙ ap (λ s. string_len s + size_of rest) (sym e)
    ∙ ap (λ t. string_len first + size_of t) (sym (take_all (length (fragment_line ∷ rest) - 1) rest (omega arith)))

-- typed text has the same bytes in either direction
pub typed_weight : {Z : Type 0} (inserts : Bool) (text : String Z) → weight (characters (cond inserts (characters_of text) (reverse (characters_of text)))) ≡ string_len text
typed_weight true text = weight_of_line text
typed_weight false text = weight-reverse (characters_of text) ∙ weight_of_line text
