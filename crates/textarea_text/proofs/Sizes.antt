-- The size of lines that are joined, and of lines of which some are replaced.
use Rattle.std.proofs.Common.{◌≡◌, ℕ, ◌+◌, ◌≤◌, ◌<◌, List, [], ◌∷◌, ◌++◌, length, take, drop, reverse, refl, sym, ap, ◌∙◌, arith, get_or, String, string_bytes, string_len, encode_utf8, encode_utf8_all}
use Rattle.textarea_text.proofs.Prelude.{common_steps, take-append-drop, take_more, drop-drop, length-append, reverse-append, encodes-chars, IsUtf8-string_bytes}
use Rattle.textarea_text.specs.Prelude.{Symbol, Character, Break, characters, characters_of, following, lines_of, text_of, Place, OccursAt, index_of, inserted, removed, size_of, weight}
use Rattle.textarea_text.proofs.Splices.{characters-append}

pub size_of-append : {Z : Type 0} (above below : List (String Z)) → size_of (above ++ below) ≡ size_of above + size_of below
size_of-append [] below = omega arith
size_of-append (line ∷ above) below = omega (arith, size_of-append above below)

-- one line more
pub size_of_more : {Z : Type 0} (lines : List (String Z)) (i : ℕ) (line : String Z) → i < length lines → line ≡ get_or lines i line → size_of (take (i + 1) lines) ≡ size_of (take i lines) + string_len line + 1
size_of_more lines i line within e =
    grind (arith, common_steps, take_more lines i line within, size_of-append (take i lines) (line ∷ []))

-- there are at most `size_of lines` lines
pub length-le-size_of : {Z : Type 0} (lines : List (String Z)) → length lines ≤ size_of lines
length-le-size_of [] = omega arith
length-le-size_of (line ∷ lines) = omega (arith, length-le-size_of lines)

-- ---- the bytes of a text

pub weight-append : (above below : List Symbol) → weight (above ++ below) ≡ weight above + weight below
weight-append [] below = omega arith
weight-append (Character c ∷ above) below = omega (arith, weight-append above below)
weight-append (Break ∷ above) below = omega (arith, weight-append above below)

pub weight-characters : (cs : List ℕ) → weight (characters cs) ≡ length (encode_utf8_all cs)
weight-characters [] = refl
weight-characters (c ∷ cs) = omega (arith, weight-characters cs, length-append (encode_utf8 c) (encode_utf8_all cs))

pub weight-reverse : (cs : List ℕ) → weight (characters (reverse cs)) ≡ weight (characters cs)
weight-reverse [] = refl
weight-reverse (c ∷ cs) =
    grind (arith, common_steps, reverse-append (c ∷ []) cs, characters-append (reverse cs) (c ∷ []), weight-append (characters (reverse cs)) (Character c ∷ []), weight-reverse cs)

-- the bytes of a line are those of its `String`
pub weight_of_line : {Z : Type 0} (line : String Z) → weight (characters (characters_of line)) ≡ string_len line
weight_of_line line =
    weight-characters (characters_of line) ∙ ap length (encodes-chars (string_bytes line) (IsUtf8-string_bytes line)) ∙ sym line.bytes.ok.0

pub weight_of_following : {Z : Type 0} (strings : List (String Z)) → weight (following (lines_of strings)) ≡ size_of strings
weight_of_following [] = refl
weight_of_following (line ∷ strings) =
    omega (arith, weight-append (characters (characters_of line)) (following (lines_of strings)), weight_of_line line, weight_of_following strings)

-- all lines but the first have a break
pub weight_of_text : {Z : Type 0} (first : String Z) (rest : List (String Z)) → weight (text_of (first ∷ rest)) ≡ string_len first + size_of rest
weight_of_text first rest =
    omega (arith, weight-append (characters (characters_of first)) (following (lines_of rest)), weight_of_line first, weight_of_following rest)

pub size_of_text : {Z : Type 0} (strings : List (String Z)) → 0 < length strings → size_of strings ≡ weight (text_of strings) + 1
size_of_text [] some = absurd (omega arith)
size_of_text (first ∷ rest) some = omega (arith, weight_of_text first rest)

pub weight_inserted : (text : List Symbol) (place : Place) (symbols : List Symbol) → weight (inserted text place symbols) ≡ weight text + weight symbols
weight_inserted text place symbols =
    let i = index_of text place in
    let whole = sym (weight-append (take i text) (drop i text)) ∙ ap weight (take-append-drop i text) in
    omega (arith, whole, weight-append (take i text) (symbols ++ drop i text), weight-append symbols (drop i text))

pub weight_removed : (text : List Symbol) (place : Place) (symbols : List Symbol) → OccursAt text place symbols → weight (removed text place symbols) + weight symbols ≡ weight text
weight_removed text place symbols occurs =
    let i = index_of text place in
    let rest = drop (i + length symbols) text in
    let after : drop i text ≡ symbols ++ rest =
    sym (take-append-drop (length symbols) (drop i text)) ∙ ap (λ t. t ++ drop (length symbols) (drop i text)) occurs ∙ ap (λ t. symbols ++ t) (drop-drop (length symbols) i text) in
    let whole = sym (weight-append (take i text) (drop i text)) ∙ ap weight (take-append-drop i text) in
    omega (arith, whole, ap weight after, weight-append symbols rest, weight-append (take i text) rest)
