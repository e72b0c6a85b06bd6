-- The tokens of a text with escapes, one after another.
use Rattle.std.proofs.Common.{arith, ◌≡◌, ◌≢◌, ℕ, zero, suc, ◌+◌, ◌<◌, ◌≤◌, Bool, true, false, ◌&&◌, ◌==◌, List, [], ◌∷◌, ◌++◌, Option, Some, None, length, drop, nat_lt, option_map}
use Rattle.std.proofs.Common.{if◌then◌else◌, refl, ap, sym, ◌∙◌, subst, append_assoc, append-nil, length-drop, eqb-true, flat_map}
use Rattle.std.specs.Prelude.{encode_utf8, option_and_then, chars, slice_get}
use Rattle.std.specs.Char.{len_utf8}
use Rattle.std.specs.List.{after_first, before_first, join_by, position_or_len}
use Rattle.std.proofs.lemmas.Bool.{and_parts, false_from_ne_true}
use Rattle.std.proofs.lemmas.Bool.Decides.{nat_tests}
use Rattle.textarea_script_syntax.specs.Arguments.{IsUnparsedAs}
use Rattle.textarea_script_syntax.specs.declared.arguments.Unparsed.{Unparsed}
use Rattle.textarea_script_syntax.specs.declared.arguments.Unparsed.TheVariants.{NoCommand, Memory}
use Rattle.textarea_script_syntax.specs.Escapes.{Token, Character, Break, character_numbered, control, escape, first_character, in_front, is_break, is_closing, lines_after_escape}
use Rattle.textarea_script_syntax.specs.Escapes.{lines_of_tokens, numbered_escape, plain_character, text_of_tokens, token, tokens, tokens_within, unescaped, unescaped_lines}

-- ---- ---- each character takes at least one byte

abbrev after : Option (ℕ × List ℕ) → List ℕ
after None = []
after (Some p) = p.1

abbrev number_at : List ℕ → Option ℕ → Option (ℕ × List ℕ)
number_at text found = option_map (λ c. (c, after_first is_closing text)) found

numbered_short : (text : List ℕ) → length (after (numbered_escape text)) ≤ length text
unfolding numbered_escape
numbered_short [] = omega arith
numbered_short (opening ∷ text) =
    let left : length (after_first is_closing text) ≤ length text = omega (arith, length-drop (position_or_len is_closing text + 1) text) in
    elim ((opening == 123) && nat_lt (position_or_len is_closing text) (length text))
    as (λ test. length (after (if test then number_at text (character_numbered (before_first is_closing text)) else None)) ≤ length (opening ∷ text)) [
      | true ↦ elim (character_numbered (before_first is_closing text)) as (λ found. length (after (number_at text found)) ≤ length (opening ∷ text)) [ None ↦ omega arith | Some c ↦ omega arith ]
      | false ↦ omega arith
    ]

escape_short : (text : List ℕ) → length (after (escape text)) ≤ length text
unfolding escape
escape_short [] = omega arith
escape_short (letter ∷ text) =
    let left : length (after (numbered_escape text)) ≤ length text = numbered_short text in
    elim (letter == 117) as (λ test. length (after (if test then numbered_escape text else option_map (λ c. (c, text)) (control letter))) ≤ length (letter ∷ text)) [
      | true ↦ omega arith
      | false ↦ elim (control letter) as (λ found. length (after (option_map (λ c. (c, text)) found)) ≤ length (letter ∷ text)) [ None ↦ omega arith | Some c ↦ omega arith ]
    ]

takes_some : (c : ℕ) → 0 < len_utf8 c
takes_some c = grind (arith, nat_tests)

plain_short : (text : List ℕ) → 0 < length text → length (after (plain_character text)) < length text
plain_short text some =
    elim (slice_get (chars text) 0) as (λ found. length (after (option_map (λ c. (c, drop (len_utf8 c) text)) found)) < length text) [
      | None ↦ omega (arith, some)
      | Some c ↦ omega (arith, some, takes_some c, length-drop (len_utf8 c) text)
    ]

first_short : (byte : ℕ) (text : List ℕ) → length (after (first_character (byte ∷ text))) < length (byte ∷ text)
unfolding first_character
first_short byte text =
    elim (byte == 92) as (λ test. length (after (if test then escape text else plain_character (byte ∷ text))) < length (byte ∷ text)) [
      | true ↦ omega (arith, escape_short text)
      | false ↦ plain_short (byte ∷ text) (omega arith)
    ]

-- ---- ---- there are enough bytes for the tokens

abbrev step : ℕ → List ℕ → Option (ℕ × List ℕ) → Option (List Token)
step most text found = option_and_then (λ p. option_map (λ more. token text p.0 ∷ more) (tokens_within most p.1)) found

enough : (f g : ℕ) (text : List ℕ) → length text ≤ f → length text ≤ g → tokens_within f text ≡ tokens_within g text
enough f g [] h k = refl
enough zero g (byte ∷ text) h k = absurd (omega (arith, h))
enough (suc f) zero (byte ∷ text) h k = absurd (omega (arith, k))
enough (suc f) (suc g) (byte ∷ text) h k =
    elim (first_character (byte ∷ text)) as (λ found. length (after found) < length (byte ∷ text) → step f (byte ∷ text) found ≡ step g (byte ∷ text) found) [
      | None ↦ λ short. refl
      | Some p ↦ λ short. ap (option_map (λ more. token (byte ∷ text) p.0 ∷ more)) (enough f g p.1 (omega (arith, h, short)) (omega (arith, k, short)))
    ] (first_short byte text)

tokens_none : (text : List ℕ) → 0 < length text → first_character text ≡ None → tokens text ≡ None
unfolding tokens
tokens_none [] some none = absurd (omega (arith, some))
tokens_none (byte ∷ text) some none = ap (step (length text) (byte ∷ text)) none

tokens_first : (text : List ℕ) (c : ℕ) (rest : List ℕ) → first_character text ≡ Some (c, rest) → tokens text ≡ option_map (λ more. token text c ∷ more) (tokens rest)
unfolding tokens first_character
tokens_first [] c rest first =
    let nothing : Option (ℕ × List ℕ) = None in
    let never : nothing ≡ Some (c, rest) = first in cc
tokens_first (byte ∷ text) c rest first =
    let short : length rest < length (byte ∷ text) = subst (λ (found : Option (ℕ × List ℕ)). length (after found) < length (byte ∷ text)) first (first_short byte text) in
    ap (step (length text) (byte ∷ text)) first ∙ ap (option_map (λ more. token (byte ∷ text) c ∷ more)) (enough (length text) (length rest) rest (omega (arith, short)) (omega arith))

-- ---- the escape `\n`

-- a text with the escape `\n` at its front
break_is : (text : List ℕ) → is_break text ≡ true → text ≡ 92 ∷ 110 ∷ drop 2 text
break_is [] is = let never : false ≡ true = is in cc
break_is (byte ∷ []) is = let p = and_parts (byte == 92) false is in let never : false ≡ true = p.1 in cc
break_is (byte ∷ letter ∷ text) is =
    let p = and_parts (byte == 92) (letter == 110) is in
    ap (λ (b : ℕ). b ∷ letter ∷ text) (eqb-true byte 92 p.0) ∙ ap (λ (l : ℕ). 92 ∷ l ∷ text) (eqb-true letter 110 p.1)

pub no_break : (text : List ℕ) → ((rest : List ℕ) → text ≢ 92 ∷ 110 ∷ rest) → is_break text ≡ false
no_break text other = false_from_ne_true (is_break text) (λ is. other (drop 2 text) (break_is text is))

break_first : (text : List ℕ) → first_character (92 ∷ 110 ∷ text) ≡ Some (10, text)
unfolding first_character escape
break_first text = refl

-- ---- the lines of the tokens

pub lines_nothing : unescaped_lines [] ≡ Some ([] ∷ [])
unfolding unescaped_lines tokens
lines_nothing = refl

pub lines_none : (text : List ℕ) → 0 < length text → first_character text ≡ None → unescaped_lines text ≡ None
unfolding unescaped_lines
lines_none text some none = ap (option_map lines_of_tokens) (tokens_none text some none)

pub lines_first : (text : List ℕ) (c : ℕ) (rest : List ℕ) → is_break text ≡ false → first_character text ≡ Some (c, rest) → unescaped_lines text ≡ option_map (λ lines. in_front (encode_utf8 c) lines) (unescaped_lines rest)
unfolding unescaped_lines
lines_first text c rest other first =
    ap (option_map lines_of_tokens) (tokens_first text c rest first)
    ∙ elim (tokens rest) as (λ found. option_map lines_of_tokens (option_map (λ more. token text c ∷ more) found) ≡ option_map (λ lines. in_front (encode_utf8 c) lines) (option_map lines_of_tokens found)) [
      | None ↦ refl
      | Some more ↦ ap (λ (test : Bool). Some (lines_of_tokens ((if test then Break else Character c) ∷ more))) other
    ]

pub lines_break : (text rest : List ℕ) → text ≡ 92 ∷ 110 ∷ rest → unescaped_lines text ≡ option_map (λ lines. [] ∷ lines) (unescaped_lines rest)
unfolding unescaped_lines
lines_break text rest is =
    ap (λ (t : List ℕ). option_map lines_of_tokens (tokens t)) is
    ∙ ap (option_map lines_of_tokens) (tokens_first (92 ∷ 110 ∷ rest) 10 rest (break_first rest))
    ∙ elim (tokens rest) as (λ found. option_map lines_of_tokens (option_map (λ more. Break ∷ more) found) ≡ option_map (λ lines. [] ∷ lines) (option_map lines_of_tokens found)) [ None ↦ refl | Some more ↦ refl ]

-- ---- ---- the text before the tokens

in_front-append : (line more : List ℕ) (lines : List (List ℕ)) → in_front line (in_front more lines) ≡ in_front (line ++ more) lines
in_front-append line more [] = refl
in_front-append line more (first ∷ lines) = ap (λ (l : List ℕ). l ∷ lines) (sym (append_assoc line more first))

pub line_grown : (line more : List ℕ) (rest : Option (List (List ℕ))) → option_map (λ lines. in_front line lines) (option_map (λ lines. in_front more lines) rest) ≡ option_map (λ lines. in_front (line ++ more) lines) rest
line_grown line more None = refl
line_grown line more (Some lines) = ap Some (in_front-append line more lines)

pub line_ended : (line : List ℕ) (rest : Option (List (List ℕ))) → option_map (λ lines. in_front line lines) (option_map (λ lines. [] ∷ lines) rest) ≡ option_map (λ lines. line ∷ lines) rest
line_ended line None = refl
line_ended line (Some lines) = ap (λ (l : List ℕ). Some (l ∷ lines)) (append-nil line)

-- ---- ---- the text of the tokens is their lines, joined by line feeds

abbrev joined : List (List ℕ) → List ℕ
joined lines = join_by (λ line. line) (10 ∷ []) lines

-- some lines, and the text that they are joined to
abbrev AreLinesOf : List ℕ → List (List ℕ) → Type 0
AreLinesOf text lines = (0 < length lines) × (text ≡ joined lines)

more_in_front : (front text : List ℕ) (lines : List (List ℕ)) → AreLinesOf text lines → AreLinesOf (front ++ text) (in_front front lines)
more_in_front front text [] are = absurd (omega (arith, are.0))
more_in_front front text (line ∷ lines) are =
    (omega arith, ap (λ (t : List ℕ). front ++ t) are.1 ∙ sym (append_assoc front line (flat_map (λ line. 10 ∷ line) lines)))

break_in_front : (text : List ℕ) (lines : List (List ℕ)) → AreLinesOf text lines → AreLinesOf (10 ∷ text) ([] ∷ lines)
break_in_front text [] are = absurd (omega (arith, are.0))
break_in_front text (line ∷ lines) are = (omega arith, ap (λ (t : List ℕ). 10 ∷ t) are.1)

lines_joined : (tokens : List Token) → AreLinesOf (text_of_tokens tokens) (lines_of_tokens tokens)
lines_joined [] = (omega arith, refl)
lines_joined (Character c ∷ tokens) = more_in_front (encode_utf8 c) (text_of_tokens tokens) (lines_of_tokens tokens) (lines_joined tokens)
lines_joined (Break ∷ tokens) = break_in_front (text_of_tokens tokens) (lines_of_tokens tokens) (lines_joined tokens)

-- the text of the tokens is made of their lines
unescaped_joined : (text : List ℕ) → unescaped text ≡ option_map joined (unescaped_lines text)
unfolding unescaped unescaped_lines
unescaped_joined text =
    elim (tokens text) as (λ found. option_map text_of_tokens found ≡ option_map joined (option_map lines_of_tokens found)) [
      | None ↦ refl
      | Some found ↦ ap Some (lines_joined found).1
    ]

-- a text before the first line is before the text
front_joined : (front text : List ℕ) → option_map joined (option_map (λ lines. in_front front lines) (unescaped_lines text)) ≡ option_map (λ more. front ++ more) (unescaped text)
unfolding unescaped unescaped_lines
front_joined front text =
    elim (tokens text) as (λ found. option_map joined (option_map (λ lines. in_front front lines) (option_map lines_of_tokens found)) ≡ option_map (λ more. front ++ more) (option_map text_of_tokens found)) [
      | None ↦ refl
      | Some found ↦ ap Some (sym (more_in_front front (text_of_tokens found) (lines_of_tokens found) (lines_joined found)).1)
    ]

-- a line before the lines is before a line feed and the text
line_before : (line text : List ℕ) → option_map joined (option_map (λ lines. line ∷ lines) (unescaped_lines text)) ≡ option_map (λ more. line ++ (10 ∷ more)) (unescaped text)
unfolding unescaped unescaped_lines
line_before line text =
    elim (tokens text) as (λ found. option_map joined (option_map (λ lines. line ∷ lines) (option_map lines_of_tokens found)) ≡ option_map (λ more. line ++ (10 ∷ more)) (option_map text_of_tokens found)) [
      | None ↦ refl
      | Some found ↦ ap Some (sym ((more_in_front line (10 ∷ text_of_tokens found) ([] ∷ lines_of_tokens found)
          (break_in_front (text_of_tokens found) (lines_of_tokens found) (lines_joined found))).1 ∙ ap (λ (first : List ℕ). joined (first ∷ lines_of_tokens found)) (append-nil line)))
    ]

-- a text, and after a line feed the text that the rest writes, if there is a rest
abbrev pub with_rest : List ℕ → Option (List ℕ) → Option (List ℕ)
with_rest text None = Some text
with_rest text (Some rest) = option_map (λ more. text ++ (10 ∷ more)) (unescaped rest)

rest_joined : (text : List ℕ) (rest : Option (List ℕ)) → option_map joined (option_map (λ lines. text ∷ lines) (lines_after_escape rest)) ≡ with_rest text rest
rest_joined text None = ap Some (append-nil text)
rest_joined text (Some rest) = line_before text rest

-- once the first line of a text is appended, the text goes on with the rest
line_pushed : (old new text : List ℕ) (rest : Option (List ℕ)) → option_map (λ lines. in_front old lines) (unescaped_lines text) ≡ option_map (λ more. new ∷ more) (lines_after_escape rest)
    → option_map (λ more. old ++ more) (unescaped text) ≡ with_rest new rest
line_pushed old new text rest pushed = sym (front_joined old text) ∙ ap (option_map joined) pushed ∙ rest_joined new rest

-- where the lines can't be read, the text can't be
pub unescaped_unread : (text : List ℕ) (unread : Unparsed) → IsUnparsedAs (unescaped_lines text) unread → IsUnparsedAs (unescaped text) unread
unescaped_unread text Memory is = tt
unescaped_unread text NoCommand is = unescaped_joined text ∙ ap (option_map joined) is

-- ---- ---- a text that is read line by line

nothing_before : (found : Option (List ℕ)) → found ≡ option_map (λ more. [] ++ more) found
nothing_before None = refl
nothing_before (Some text) = refl

-- the first line was appended to nothing
pub first_read : (old new text : List ℕ) (rest : Option (List ℕ)) → old ≡ [] → option_map (λ lines. in_front old lines) (unescaped_lines text) ≡ option_map (λ more. new ∷ more) (lines_after_escape rest) → unescaped text ≡ with_rest new rest
first_read old new text rest none pushed =
    nothing_before (unescaped text) ∙ ap (λ (front : List ℕ). option_map (λ more. front ++ more) (unescaped text)) (sym none) ∙ line_pushed old new text rest pushed

fed_before : (text fed : List ℕ) (found : Option (List ℕ)) → fed ≡ text ++ (10 ∷ []) → option_map (λ more. text ++ (10 ∷ more)) found ≡ option_map (λ more. fed ++ more) found
fed_before text fed None is = refl
fed_before text fed (Some more) is = ap Some (sym (append_assoc text (10 ∷ []) more)) ∙ ap (λ (front : List ℕ). Some (front ++ more)) (sym is)

-- a line feed and the next line were appended
pub next_read : (text read fed new after : List ℕ) (rest : Option (List ℕ)) → unescaped text ≡ with_rest read (Some after) → fed ≡ read ++ (10 ∷ [])
    → option_map (λ lines. in_front fed lines) (unescaped_lines after) ≡ option_map (λ more. new ∷ more) (lines_after_escape rest) → unescaped text ≡ with_rest new rest
next_read text read fed new after rest is feed pushed = is ∙ fed_before read fed (unescaped after) feed ∙ line_pushed fed new after rest pushed

-- a later line can't be read
pub rest_unread : (text read after : List ℕ) (unread : Unparsed) → unescaped text ≡ with_rest read (Some after) → IsUnparsedAs (unescaped_lines after) unread → IsUnparsedAs (unescaped text) unread
rest_unread text read after Memory is unread = tt
rest_unread text read after NoCommand is unread = is ∙ ap (option_map (λ more. read ++ (10 ∷ more))) (unescaped_unread after NoCommand unread)
