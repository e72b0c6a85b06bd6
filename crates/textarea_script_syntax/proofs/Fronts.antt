-- The text before the first backslash is read unchanged.
use Rattle.std.proofs.Common.{arith, ◌≡◌, ◌≢◌, ℕ, suc, ◌<◌, List, [], ◌∷◌, ◌++◌, Option, Some, None, length, option_map, refl, ap, sym, ◌∙◌, subst, take, append_assoc, append-nil, lit<}
use Rattle.std.specs.Prelude.{chars, encode_utf8, slice_get, slice_index}
use Rattle.std.specs.Str.{IsUtf8, encode_utf8_all}
use Rattle.std.proofs.lemmas.Grind.{common_steps}
use Rattle.std.proofs.lemmas.Str.{chars_past_char, encode_ascii, IsCharBoundary-before_ascii, IsUtf8-past_char, IsUtf8-take}
use Rattle.textarea_script_syntax.specs.Escapes.{HasNoBackslash, escape, first_character, in_front, unescaped_lines}
use Rattle.textarea_script_syntax.proofs.Escapes.{first_plain}
use Rattle.textarea_script_syntax.proofs.Tokens.{line_ended, line_grown, lines_break, lines_first, lines_none, lines_nothing, no_break}

pub without : (bytes : List ℕ) → ((k : ℕ) → k < length bytes → slice_index bytes k ≢ 92) → HasNoBackslash bytes
without [] none = tt
without (byte ∷ bytes) none = (none 0 (omega arith), without bytes (λ k within. none (suc k) (omega (arith, within))))

without_front : (front bytes : List ℕ) → HasNoBackslash (front ++ bytes) → HasNoBackslash bytes
without_front [] bytes none = none
without_front (byte ∷ front) bytes none = without_front front bytes none.1

other_character : (c : ℕ) (bytes : List ℕ) → HasNoBackslash (encode_utf8 c ++ bytes) → c ≢ 92
other_character c bytes none same =
    (subst (λ (front : List ℕ). HasNoBackslash (front ++ bytes)) (ap encode_utf8 same ∙ encode_ascii 92 (lit< tt)) none).0 refl

-- a text whose first character is not a backslash
begun : (text rest : List ℕ) (c : ℕ) → IsUtf8 text → text ≡ encode_utf8 c ++ rest → c ≢ 92 → first_character text ≡ Some (c, rest)
begun text rest c utf8 is other =
    first_plain text rest c is (sym (ap (λ (cs : List ℕ). slice_get cs 0) (chars_past_char text rest c utf8 is))) other

unbroken : (text rest : List ℕ) (c : ℕ) → IsUtf8 text → text ≡ encode_utf8 c ++ rest → c ≢ 92 → (after : List ℕ) → text ≢ 92 ∷ 110 ∷ after
unbroken text rest c utf8 is other after broken =
    let backslash : text ≡ encode_utf8 92 ++ (110 ∷ after) = broken ∙ ap (λ (front : List ℕ). front ++ (110 ∷ after)) (sym (encode_ascii 92 (lit< tt))) in
    let same : c ∷ chars rest ≡ 92 ∷ chars (110 ∷ after) = sym (chars_past_char text rest c utf8 is) ∙ chars_past_char text (110 ∷ after) 92 utf8 backslash in
    other (ap (λ (cs : List ℕ). slice_index cs 0) same)

in_front-nothing : (rest : Option (List (List ℕ))) → rest ≡ option_map (λ lines. in_front [] lines) rest
in_front-nothing None = refl
in_front-nothing (Some []) = refl
in_front-nothing (Some (line ∷ lines)) = refl

-- ---- ---- the characters before a backslash, one after another

line_front : (cs text rest : List ℕ) → IsUtf8 text → text ≡ encode_utf8_all cs ++ rest → HasNoBackslash (encode_utf8_all cs) → unescaped_lines text ≡ option_map (λ lines. in_front (encode_utf8_all cs) lines) (unescaped_lines rest)
line_front [] text rest utf8 is none = ap unescaped_lines is ∙ in_front-nothing (unescaped_lines rest)
line_front (c ∷ cs) text rest utf8 is none =
    let after : List ℕ = encode_utf8_all cs ++ rest in
    let first : text ≡ encode_utf8 c ++ after = is ∙ append_assoc (encode_utf8 c) (encode_utf8_all cs) rest in
    let other = other_character c (encode_utf8_all cs) none in
    lines_first text c after (no_break text (unbroken text after c utf8 first other)) (begun text after c utf8 first other)
    ∙ ap (option_map (λ lines. in_front (encode_utf8 c) lines)) (line_front cs after rest (IsUtf8-past_char text after c utf8 first) refl (without_front (encode_utf8 c) (encode_utf8_all cs) none))
    ∙ line_grown (encode_utf8 c) (encode_utf8_all cs) (unescaped_lines rest)

line_after_front : (front text rest : List ℕ) → IsUtf8 text → IsUtf8 front → text ≡ front ++ rest → HasNoBackslash front → unescaped_lines text ≡ option_map (λ lines. in_front front lines) (unescaped_lines rest)
line_after_front front text rest utf8 whole is none =
    subst (λ (bytes : List ℕ). text ≡ bytes ++ rest → HasNoBackslash bytes → unescaped_lines text ≡ option_map (λ lines. in_front bytes lines) (unescaped_lines rest)) whole.1.1 (line_front whole.0 text rest utf8) is none

-- ---- the first backslash

front_whole : (text front escaped : List ℕ) → IsUtf8 text → text ≡ front ++ (92 ∷ escaped) → IsUtf8 front
front_whole text front escaped utf8 is =
    let within : length front < length text = grind (arith, common_steps) in
    let at : slice_index text (length front) ≡ 92 = grind (arith, common_steps) in
    let before : take (length front) text ≡ front = grind (arith, common_steps) in
    subst IsUtf8 before (IsUtf8-take text (length front) utf8 (IsCharBoundary-before_ascii text (length front) within (omega (arith, at))))

backslash : (escaped : List ℕ) → first_character (92 ∷ escaped) ≡ escape escaped
unfolding first_character
backslash escaped = refl

-- a text without a backslash
pub line_plain : (text : List ℕ) → IsUtf8 text → HasNoBackslash text → unescaped_lines text ≡ Some (text ∷ [])
line_plain text utf8 none =
    line_after_front text text [] utf8 utf8 (sym (append-nil text)) none
    ∙ ap (option_map (λ lines. in_front text lines)) lines_nothing
    ∙ ap (λ (line : List ℕ). Some (line ∷ [])) (append-nil text)

pub line_unread : (text front escaped : List ℕ) → IsUtf8 text → text ≡ front ++ (92 ∷ escaped) → HasNoBackslash front → escape escaped ≡ None → unescaped_lines text ≡ None
line_unread text front escaped utf8 is none unread =
    line_after_front front text (92 ∷ escaped) utf8 (front_whole text front escaped utf8 is) is none
    ∙ ap (option_map (λ lines. in_front front lines)) (lines_none (92 ∷ escaped) (omega arith) (backslash escaped ∙ unread))

pub line_escaped : (text front escaped after : List ℕ) (c : ℕ) → IsUtf8 text → text ≡ front ++ (92 ∷ escaped) → HasNoBackslash front → ((rest : List ℕ) → escaped ≢ 110 ∷ rest)
    → escape escaped ≡ Some (c, after) → unescaped_lines text ≡ option_map (λ lines. in_front (front ++ encode_utf8 c) lines) (unescaped_lines after)
line_escaped text front escaped after c utf8 is none other read =
    let unbroken : (rest : List ℕ) → 92 ∷ escaped ≢ 92 ∷ 110 ∷ rest = λ rest same. other rest (ap (λ (bytes : List ℕ). tail bytes) same) in
    line_after_front front text (92 ∷ escaped) utf8 (front_whole text front escaped utf8 is) is none
    ∙ ap (option_map (λ lines. in_front front lines)) (lines_first (92 ∷ escaped) c after (no_break (92 ∷ escaped) unbroken) (backslash escaped ∙ read))
    ∙ line_grown front (encode_utf8 c) (unescaped_lines after)
  where
    tail : List ℕ → List ℕ
    tail [] = []
    tail (byte ∷ bytes) = bytes

pub line_broken : (text front escaped after : List ℕ) → IsUtf8 text → text ≡ front ++ (92 ∷ escaped) → HasNoBackslash front → escaped ≡ 110 ∷ after → unescaped_lines text ≡ option_map (λ lines. front ∷ lines) (unescaped_lines after)
line_broken text front escaped after utf8 is none broken =
    line_after_front front text (92 ∷ escaped) utf8 (front_whole text front escaped utf8 is) is none
    ∙ ap (option_map (λ lines. in_front front lines)) (lines_break (92 ∷ escaped) after (ap (λ (bytes : List ℕ). 92 ∷ bytes) broken))
    ∙ line_ended front (unescaped_lines after)

-- a line with a longer text before it
pub line_joined : (line front : List ℕ) (rest : Option (List (List ℕ))) → option_map (λ lines. in_front line lines) (option_map (λ lines. front ∷ lines) rest) ≡ option_map (λ lines. (line ++ front) ∷ lines) rest
line_joined line front None = refl
line_joined line front (Some lines) = refl
