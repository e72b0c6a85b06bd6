-- When the text of lines is empty.
use Rattle.std.proofs.Common.{◌≡◌, ◌≢◌, ◌<◌, ◌==◌, Bool, true, false, eqb-true, List, [], ◌∷◌, ◌++◌, length, sym, ap, refl, ◌∙◌, arith, get_or, String, string_bytes, encode_utf8_all}
use Rattle.textarea_text.proofs.Prelude.{common_steps, false≢true, IsUtf8-string_bytes, encodes-chars, chars-nil, append-nil, length-append, nil_from_length}
use Rattle.textarea_text.specs.Prelude.{string_len, chars, characters, following, characters_of, lines_of, text_of}
use Rattle.textarea_text.proofs.Splices.{length-characters}

-- just an empty string has no characters
characters_of-nil : {Z : Type 0} (s : String Z) → string_bytes s ≡ [] → characters_of s ≡ []
characters_of-nil s e = ap chars e ∙ chars-nil

string_len-nil : {Z : Type 0} (s : String Z) → characters_of s ≡ [] → string_len s ≡ 0
string_len-nil s e = omega (arith, s.bytes.ok.0, ap length (sym (encodes-chars (string_bytes s) (IsUtf8-string_bytes s)) ∙ ap encode_utf8_all e))

-- the same by what `is_empty` returns
pub empty-string : {Z : Type 0} (s : String Z) (empty : Bool) → empty ≡ (string_len s == 0) → empty ≡ true → characters_of s ≡ []
empty-string s empty e h = characters_of-nil s (nil_from_length (string_bytes s) (omega (arith, s.bytes.ok.0, eqb-true (string_len s) 0 (sym e ∙ h))))

pub filled-string : {Z : Type 0} (s : String Z) (empty : Bool) → empty ≡ (string_len s == 0) → empty ≡ false → characters_of s ≢ []
filled-string s empty e h none = false≢true (sym h ∙ e ∙ ap (λ n. n == 0) (string_len-nil s none))

text_of-one : {Z : Type 0} (s : String Z) → characters_of s ≡ [] → text_of (s ∷ []) ≡ []
text_of-one s e = append-nil (characters (characters_of s)) ∙ ap characters e

text_of-one_nil : {Z : Type 0} (s : String Z) → text_of (s ∷ []) ≡ [] → characters_of s ≡ []
text_of-one_nil s e = nil_from_length (characters_of s) (omega (arith, length-characters (characters_of s), ap length (sym (append-nil (characters (characters_of s))) ∙ e)))

-- the text of one line is empty just if the line is
pub empty_text : {Z : Type 0} (items : List (String Z)) (s : String Z) → length items ≡ 1 → s ≡ get_or items 0 s → (string_len s ≡ 0 → text_of items ≡ []) × (text_of items ≡ [] → string_len s ≡ 0)
empty_text [] s one e = absurd (omega arith)
empty_text (a ∷ []) s one e = (
  (λ none. text_of-one a (ap characters_of (sym e) ∙ characters_of-nil s (nil_from_length (string_bytes s) (omega (arith, s.bytes.ok.0))))),
  (λ none. string_len-nil s (ap characters_of e ∙ text_of-one_nil a none)),
)
empty_text (a ∷ b ∷ rest) s one e = absurd (omega arith)

pub text_of-many : {Z : Type 0} (items : List (String Z)) → length items ≢ 1 → 0 < length items → text_of items ≢ []
text_of-many [] apart some = absurd (omega arith)
text_of-many (a ∷ []) apart some = absurd (apart refl)
text_of-many (a ∷ b ∷ rest) apart some = λ e. omega (arith, ap length e, length-append (characters (characters_of a)) (following (lines_of (b ∷ rest))))

-- one empty line has the same text as no lines
pub text_of_empty : {Z : Type 0} (lines old : List (String Z)) (line : String Z) → lines ≡ old ++ line ∷ [] → length old ≡ 0 → string_bytes line ≡ [] → text_of lines ≡ text_of old
text_of_empty lines old line is none e =
    grind (arith, common_steps, nil_from_length old none, chars-nil)
