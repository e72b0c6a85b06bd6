-- Texts as symbols and symbols as written texts, and runs of spaces.
use Rattle.std.proofs.Common.{◌≡◌, ℕ, zero, suc, ◌==◌, ◌&&◌, Bool, true, false, not, List, [], ◌∷◌, ◌++◌, length, sym, ap, refl, ◌∙◌, arith, encode_utf8_all, String, string_bytes, cond, replicate}
use Rattle.std.specs.Prelude.{All}
use Rattle.std.specs.Str.{chars, IsUtf8}
use Rattle.std.proofs.lemmas.List.{append-nil, nil_from_length}
use Rattle.std.proofs.lemmas.List.Elements.{All-cons, All-head, All-nil, All-tail}
use Rattle.std.proofs.lemmas.Str.{IsUtf8-string_bytes, chars-nil, encode_ascii, encodes-chars}
use Rattle.std.proofs.lemmas.Bool.{eqb-true}
use Rattle.textarea_text.specs.Text.{Symbol, Character, Break, characters, characters_of, text_of}
use Rattle.textarea_text.proofs.Columns.{chars_from_bytes}
use Rattle.textarea_text.specs.Fragment.{begins_with_line_feed, fragment_symbols, fragment_text, pasted_symbols, unified_after}
use Rattle.textarea_document.specs.Edits.{has_symbols}
use Rattle.textarea_history.proofs.Joins.{right_of}

-- a character means a symbol, or one after it does
fragment_some : (c : ℕ) (cs : List ℕ) → has_symbols (fragment_symbols (c ∷ cs)) ≡ true
fragment_some c cs = by (c == 10) (c == 13 && begins_with_line_feed cs) cs refl refl
  where
    by : (feed selection_cancelled : Bool) (after : List ℕ) → (c == 10) ≡ feed → (c == 13 && begins_with_line_feed after) ≡ selection_cancelled
        → has_symbols (cond feed (Break ∷ []) (cond selection_cancelled [] (Character c ∷ [])) ++ fragment_symbols after) ≡ true
    by true selection_cancelled after e e' = refl
    by false true [] e e' = let no : false ≡ true = right_of (c == 13) false e' in absurd cc
    by false true (d ∷ after) e e' = ap (λ (b : Bool). has_symbols (cond b (Break ∷ []) (cond (d == 13 && begins_with_line_feed after) [] (Character d ∷ [])) ++ fragment_symbols after)) (right_of (c == 13) (d == 10) e')
    by false false after e e' = refl

pub fragment_filled : (text : List ℕ) → IsUtf8 text → (length text == 0) ≡ false → has_symbols (fragment_symbols (chars text)) ≡ true
fragment_filled text utf8 e = by (chars text) (encodes-chars text utf8)
  where
    by : (cs : List ℕ) → encode_utf8_all cs ≡ text → has_symbols (fragment_symbols cs) ≡ true
    by [] e' = let empty : true ≡ (length text == 0) = ap (λ (t : List ℕ). length t == 0) e' in cc
    by (c ∷ cs) e' = fragment_some c cs

pub fragment_none : (text : List ℕ) → (length text == 0) ≡ true → has_symbols (fragment_symbols (chars text)) ≡ false
fragment_none text e = ap (λ t. has_symbols (fragment_symbols (chars t))) (nil_from_length text (eqb-true (length text) 0 e)) ∙ ap (λ t. has_symbols (fragment_symbols t)) chars-nil

pub has_text_is : (text : List ℕ) (empty : Bool) → IsUtf8 text → empty ≡ (length text == 0) → not empty ≡ has_symbols (fragment_symbols (chars text))
has_text_is text true utf8 e = sym (fragment_none text (sym e))
has_text_is text false utf8 e = sym (fragment_filled text utf8 (sym e))

-- the same of a pasted text, whose first character gives one character or line feed
pasted_filled : (cs text : List ℕ) → encode_utf8_all cs ≡ text → (length text == 0) ≡ false → has_symbols (pasted_symbols cs) ≡ true
pasted_filled [] text e' e = let empty : true ≡ (length text == 0) = ap (λ (t : List ℕ). length t == 0) e' in cc
pasted_filled (c ∷ cs) text e' e = fragment_some (cond (c == 13) 10 c) (unified_after (c == 13) cs)

pub has_pasted_text_is : (text : List ℕ) (empty : Bool) → IsUtf8 text → empty ≡ (length text == 0) → not empty ≡ has_symbols (pasted_symbols (chars text))
has_pasted_text_is text true utf8 e =
    sym (ap (λ t. has_symbols (pasted_symbols (chars t))) (nil_from_length text (eqb-true (length text) 0 (sym e))) ∙ ap (λ t. has_symbols (pasted_symbols t)) chars-nil)
has_pasted_text_is text false utf8 e = sym (pasted_filled (chars text) text (encodes-chars text utf8) (sym e))

-- spaces as a fragment of one line
replicate_bytes : (n : ℕ) → replicate n 32 ≡ encode_utf8_all (replicate n 32)
replicate_bytes zero = refl
replicate_bytes (suc n) =
    ap (λ (t : List ℕ). 32 ∷ t) (replicate_bytes n) ∙ ap (λ (t : List ℕ). t ++ encode_utf8_all (replicate n 32)) (sym (encode_ascii 32 (omega arith)))

replicate_characters : (n c : ℕ) → characters (replicate n c) ≡ replicate n (Character c)
replicate_characters zero c = refl
replicate_characters (suc n) c = ap (λ (t : List Symbol). Character c ∷ t) (replicate_characters n c)

pub spaces_text : {Z : Type 0} (items old : List (String Z)) (fragment_line : String Z) (count : ℕ) → items ≡ old ++ fragment_line ∷ [] → length old ≡ 0
    → string_bytes fragment_line ≡ replicate count 32 → text_of items ≡ replicate count (Character 32)
spaces_text items old fragment_line count is none e =
    ap text_of (is ∙ ap (λ t. t ++ fragment_line ∷ []) (nil_from_length old none))
    ∙ append-nil (characters (characters_of fragment_line))
    ∙ ap characters (chars_from_bytes (string_bytes fragment_line) (replicate count 32) (IsUtf8-string_bytes fragment_line) (e ∙ replicate_bytes count))
    ∙ replicate_characters count 32

-- a fact of each character of the written text, from one of each symbol: a break is a line feed
pub each_written : (P : Symbol → Type 0) (Q : ℕ → Type 0) → ((c : ℕ) → P (Character c) → Q c) → (P Break → Q 10) → (text : List Symbol) → All P text → All Q (fragment_text text)
each_written P Q character feed [] all = All-nil Q
each_written P Q character feed (Character c ∷ text) all =
    All-cons Q c (fragment_text text) (character c (All-head P (Character c) text all)) (each_written P Q character feed text (All-tail P (Character c) text all))
each_written P Q character feed (Break ∷ text) all =
    All-cons Q 10 (fragment_text text) (feed (All-head P Break text all)) (each_written P Q character feed text (All-tail P Break text all))
