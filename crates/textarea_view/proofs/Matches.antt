-- The matches of a line, by byte offsets in the line.
use Rattle.std.proofs.Common.{◌≡◌, ◌<◌, ℕ, List, [], length, get_or, Option, None, Some, String, ap, ◌∙◌, arith, string_bytes}
use Rattle.std.proofs.lemmas.List.{length-map}
use Rattle.textarea_view.specs.Prelude.{option_map_or, characters_of, lines_of, match_spans, matches_in}
use Rattle.textarea_screen_map.proofs.Holding.{bytes_of_line}

pub matches_of_line : {Z : Type 0} (pattern : Option (List ℕ)) (items : List (String Z)) (i : ℕ) (line : String Z) (text : List ℕ) (found : List (ℕ × ℕ)) → i < length (lines_of items) →
    line ≡ get_or items i line → text ≡ string_bytes line → found ≡ option_map_or (λ p. match_spans p text) pattern [] → found ≡ matches_in (record { pattern = pattern; lines = lines_of items }) i
matches_of_line pattern items i line text found within read same e =
    e ∙ ap (λ (t : List ℕ). option_map_or (λ p. match_spans p t) pattern []) (bytes_of_line items i line text (omega (arith, within, length-map items characters_of)) read same)

-- there are none without a pattern
pub none_without : (pattern : Option (List ℕ)) (text : List ℕ) (found : List (ℕ × ℕ)) → found ≡ option_map_or (λ p. match_spans p text) pattern [] → pattern ≡ None → found ≡ []
none_without None text found e none = e
none_without (Some p) text found e none = cc
