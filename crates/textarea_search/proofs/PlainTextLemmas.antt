-- The pattern of a plain text is read as that text.
use Rattle.std.proofs.Common.{◌≡◌, ◌≢◌, ℕ, Bool, false, List, [], ◌∷◌, ◌++◌, Option, None, Some, append-nil, append_assoc, refl, sym, ap, ◌∙◌, subst, encode_utf8_all, IsUtf8}
use Rattle.std.specs.Prelude.{slice_get}
use Rattle.std.specs.List.{last_or}
use Rattle.std.specs.Str.{chars}
use Rattle.regex_hir.specs.Re.{literal}
use Rattle.regex_syntax.specs.Verdict.{ReadsAsText, escaped_text}
use Rattle.regex_syntax.proofs.EscapeLemmas.{escaped_reads}
use Rattle.textarea_search.specs.PlainTexts.{bound_at, case_flag, text_pattern}
use Rattle.textarea_search.specs.Spans.{ListsMatchesOf}
use Rattle.textarea_search.proofs.PatternLemmas.{matches_of_text}

-- the last item of a list whose last item is x
pub last_is : {A : Type 0} (o : Option A) (xs : List A) (x : A) → last_or o (xs ++ x ∷ []) ≡ Some x
last_is o [] x = refl
last_is o (y ∷ xs) x = last_is (Some y) xs x

-- without options it is the escaped text
plain_is : (text : List ℕ) → text ≢ [] → text_pattern text false false ≡ encode_utf8_all (escaped_text (chars text))
plain_is [] some = absurd (some refl)
plain_is (byte ∷ bytes) some = append-nil (encode_utf8_all (escaped_text (chars (byte ∷ bytes))))

reads : (text : List ℕ) → IsUtf8 text → text ≢ [] → ReadsAsText (text_pattern text false false) text
reads text utf8 some = subst (λ pattern. ReadsAsText pattern text) (sym (plain_is text some)) (escaped_reads text utf8)

pub text_matches : (text : List ℕ) → IsUtf8 text → text ≢ [] → ListsMatchesOf (text_pattern text false false) (literal text)
text_matches text utf8 some = matches_of_text _ text (reads text utf8 some)

-- what is appended to an empty text one after another is the pattern
pub appended : (text b0 b1 b2 b3 b4 escaped : List ℕ) (first last : Option ℕ) (ignore_case whole_word : Bool) → text ≢ [] → b0 ≡ [] →
    b1 ≡ b0 ++ case_flag ignore_case → b2 ≡ b1 ++ bound_at whole_word first → b3 ≡ b2 ++ escaped → b4 ≡ b3 ++ bound_at whole_word last →
    first ≡ slice_get (chars text) 0 → escaped ≡ encode_utf8_all (escaped_text (chars text)) → last ≡ last_or None (chars text) →
    b4 ≡ text_pattern text ignore_case whole_word
appended [] b0 b1 b2 b3 b4 escaped first last ignore_case whole_word some a b c d e f g h = absurd (some refl)
appended (byte ∷ bytes) b0 b1 b2 b3 b4 escaped first last ignore_case whole_word some a b c d e f g h =
    let characters = chars (byte ∷ bytes) in
    let flag = case_flag ignore_case in
    let bound : Option ℕ → List ℕ = bound_at whole_word in
    e
    ∙ ap (λ xs. xs ++ bound last) (d ∙ ap (λ xs. xs ++ escaped) (c ∙ ap (λ xs. xs ++ bound first) (b ∙ ap (λ xs. xs ++ flag) a)))
    ∙ append_assoc (flag ++ bound first) escaped (bound last)
    ∙ append_assoc flag (bound first) (escaped ++ bound last)
    ∙ ap (λ o. flag ++ (bound o ++ (escaped ++ bound last))) f
    ∙ ap (λ xs. flag ++ (bound (slice_get characters 0) ++ (xs ++ bound last))) g
    ∙ ap (λ o. flag ++ (bound (slice_get characters 0) ++ (encode_utf8_all (escaped_text characters) ++ bound o))) h
