-- Symbols with a space for each break, and lines joined by spaces.
use Rattle.std.proofs.Common.{◌≡◌, ℕ, ◌+◌, ◌<◌, List, [], ◌∷◌, ◌++◌, String, ap, arith, get_or, length, map, refl, take, ◌∙◌}
use Rattle.std.specs.Prelude.{encode_utf8}
use Rattle.std.specs.Str.{IsUtf8, chars}
use Rattle.std.proofs.lemmas.Grind.{common_steps}
use Rattle.std.proofs.lemmas.List.{append-nil, append_assoc, length-map, map-append, take_more}
use Rattle.std.proofs.lemmas.Str.{chars-append, encode_ascii}
use Rattle.textarea_text.specs.Text.{Symbol, Character, characters, characters_of, following, lines_of, text_of}
use Rattle.textarea_text.proofs.Splices.{characters-append, following-append}
use Rattle.tui_textarea.specs.Guards.{admitted, spaced}
use Rattle.tui_textarea.specs.State.{State}
use Rattle.tui_textarea.proofs.Cases.{by_test}

pub spaced-characters : (cs : List ℕ) → map spaced (characters cs) ≡ characters cs
spaced-characters [] = refl
spaced-characters (c ∷ cs) = ap (λ t. Character c ∷ t) (spaced-characters cs)

-- characters are inserted as they are
pub admitted_characters : (state : State) (cs : List ℕ) → admitted state (characters cs) ≡ characters cs
admitted_characters state cs =
    by_test (λ (symbols : List Symbol). symbols ≡ characters cs) state.settings.single_line (map spaced (characters cs)) (characters cs) (λ single. spaced-characters cs) (λ several. refl)

-- after `push` of a space
pub chars_space : (bs new : List ℕ) → IsUtf8 bs → new ≡ bs ++ encode_utf8 32 → chars new ≡ chars bs ++ 32 ∷ []
unfolding chars
chars_space bs new text e = ap chars e ∙ ap (λ t. chars (bs ++ t)) (encode_ascii 32 (omega arith)) ∙ chars-append bs (32 ∷ []) text

pub spaced_more : {Z : Type 0} (first text next_text fragment_line : List ℕ) (rest : List (String Z)) (number : ℕ) →
    characters text ≡ characters first ++ map spaced (following (take number (lines_of rest))) → number < length rest → next_text ≡ (text ++ 32 ∷ []) ++ fragment_line →
    fragment_line ≡ get_or (lines_of rest) number [] → characters next_text ≡ characters first ++ map spaced (following (take (number + 1) (lines_of rest)))
spaced_more first text next_text fragment_line rest number h within now e =
    grind (arith, common_steps, take_more, length-map rest characters_of, following-append, map-append, spaced-characters, characters-append, append-nil, append_assoc)

pub spaced_done : {Z : Type 0} (first : String Z) (fragment_lines rest : List (String Z)) (begins text : List ℕ) (number : ℕ) →
    characters text ≡ characters begins ++ map spaced (following (take number (lines_of rest))) → take number (lines_of rest) ≡ lines_of rest → begins ≡ characters_of first →
    fragment_lines ≡ first ∷ rest → characters text ≡ map spaced (text_of fragment_lines)
spaced_done first fragment_lines rest begins text number h all e is = rw (h, all, e, is, map-append, spaced-characters) refl
