-- The words of a list with one word.
use Rattle.std.proofs.Common.{◌≡◌, ◌∙◌, ℕ, ◌<◌, ◌≤◌, List, [], ◌∷◌, map, length, get_or, ap, sym, arith}

-- the bytes of all words are those of the one word
pub one_word : {A : Type 0} (bytes : A → List ℕ) (words : List A) (word : A) (wanted : List ℕ) → 1 ≤ length words → length words < 2 → word ≡ get_or words 0 word → bytes word ≡ wanted → map bytes words ≡ wanted ∷ []
one_word bytes [] word wanted some one is same = absurd (omega (arith, some))
one_word bytes (w ∷ []) word wanted some one is same = ap (λ (l : List ℕ). l ∷ []) (ap bytes (sym is) ∙ same)
one_word bytes (w ∷ (v ∷ rest)) word wanted some one is same = absurd (omega (arith, one))
