-- The line of a text area with bullets.
use Rattle.std.proofs.Common.{◌≡◌, ◌∙◌, ℕ, List, [], ◌∷◌, String, Global, length, map, replicate, refl, ap, string_bytes, encode_utf8_all}
use Rattle.std.specs.Str.{chars}
use Rattle.std.proofs.lemmas.Str.{IsUtf8-string_bytes}
use Rattle.textarea_text.specs.Text.{characters_of, lines_of}
use Rattle.textarea_text.proofs.Columns.{chars_from_bytes}
use Rattle.textarea_uses.specs.Password.{bullet}

bullets_are : (cs : List ℕ) → map (λ (c : ℕ). bullet) cs ≡ replicate (length cs) bullet
bullets_are [] = refl
bullets_are (c ∷ cs) = ap (λ (rest : List ℕ). bullet ∷ rest) (bullets_are cs)

-- one line of bullets, for a line of these characters
pub bullet_rows : (cs line : List ℕ) (bullets : String Global) (items : List (String Global)) → chars line ≡ cs → string_bytes bullets ≡ encode_utf8_all (map (λ (c : ℕ). bullet) (chars line))
    → items ≡ bullets ∷ [] → lines_of items ≡ replicate (length cs) bullet ∷ []
bullet_rows cs line bullets items is written items_are =
    let read : characters_of bullets ≡ map (λ (c : ℕ). bullet) (chars line) =
    chars_from_bytes (string_bytes bullets) (map (λ (c : ℕ). bullet) (chars line)) (IsUtf8-string_bytes bullets) written in
    ap lines_of items_are ∙ ap (λ (all : List ℕ). all ∷ []) (read ∙ ap (map (λ (c : ℕ). bullet)) is ∙ bullets_are cs)
