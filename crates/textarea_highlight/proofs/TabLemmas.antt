-- Tabs among the bytes of a text and among its characters.
use Rattle.std.proofs.Common.{◌≡◌, ℕ, ◌<◌, ◌≤◌, Bool, false, ◌||◌, List, [], ◌∷◌, length, get_or, Option, None, Some, IsUtf8, encode_utf8_all, refl, sym, ap, ap₂, ◌∙◌, ⊎_elim, arith}
use Rattle.std.specs.Char.{encode_utf8}
use Rattle.std.specs.List.{list_any}
use Rattle.std.specs.Option.{is_some}
use Rattle.std.specs.Str.{chars}
use Rattle.std.proofs.lemmas.Bool.{cases_lt, eqb-true, false_from_ne_true}
use Rattle.std.proofs.Math.Bool.{or-false}
use Rattle.std.proofs.lemmas.Bool.Decides.{nat_tests}
use Rattle.std.proofs.lemmas.List.{append-nil, get_or_default}
use Rattle.std.proofs.lemmas.List.Folds.{list_any-append, list_any_at, list_any_none}
use Rattle.std.proofs.lemmas.Str.{encode_ascii, encodes-chars, inside_one}
use Rattle.memchr.specs.Find.{IsFirstByte, is_byte}
use Rattle.textarea_highlight.specs.Display.{is_tab}

-- a character of several bytes has no byte of ASCII
no_tab_byte : (c k d : ℕ) → 128 ≤ c → k < length (encode_utf8 c) → is_byte 9 (get_or (encode_utf8 c) k d) ≡ false
no_tab_byte c k d wide below = false_from_ne_true (is_byte 9 (get_or (encode_utf8 c) k d)) (λ is.
    let tab : get_or (encode_utf8 c) k 0 ≡ 9 = get_or_default (encode_utf8 c) k 0 d below ∙ eqb-true _ _ is in
    omega (arith, wide, tab, inside_one c [] (encode_utf8 c) k (sym (append-nil (encode_utf8 c))) below (omega (arith, tab))))

not_tab : (c : ℕ) → 128 ≤ c → is_tab c ≡ false
not_tab c wide = grind (arith, nat_tests)

tab_byte : (c : ℕ) → list_any (is_byte 9) (encode_utf8 c) ≡ is_tab c
tab_byte c =
    ⊎_elim (λ ascii. ap (list_any (is_byte 9)) (encode_ascii c ascii) ∙ or-false (is_byte 9 c))
    (λ wide. list_any_none (is_byte 9) (encode_utf8 c) (λ k d below. no_tab_byte c k d wide below) ∙ sym (not_tab c wide)) (cases_lt c 128)

tab_bytes : (cs : List ℕ) → list_any (is_byte 9) (encode_utf8_all cs) ≡ list_any is_tab cs
tab_bytes [] = refl
tab_bytes (c ∷ cs) =
    list_any-append (is_byte 9) (encode_utf8 c) (encode_utf8_all cs) ∙ ap₂ (λ (first : Bool) (others : Bool). first || others) (tab_byte c) (tab_bytes cs)

tab_in_bytes : (text : List ℕ) → IsUtf8 text → list_any (is_byte 9) text ≡ list_any is_tab (chars text)
tab_in_bytes text utf8 = ap (list_any (is_byte 9)) (sym (encodes-chars text utf8)) ∙ tab_bytes (chars text)

first_byte : (text : List ℕ) (found : Option ℕ) → IsFirstByte (is_byte 9) text found → is_some found ≡ list_any (is_byte 9) text
first_byte text None nowhere =
    sym (list_any_none (is_byte 9) text
    (λ k d below. ap (is_byte 9) (get_or_default text k d 0 below) ∙ false_from_ne_true (is_byte 9 (get_or text k 0)) (nowhere k (omega arith) below)))
first_byte text (Some at) found = sym (list_any_at (is_byte 9) text at 0 found.0.high found.1)

-- the search for the byte of a tab finds whether the text has the character
pub found_tab : (text : List ℕ) (found : Option ℕ) → IsUtf8 text → IsFirstByte (is_byte 9) text found → is_some found ≡ list_any is_tab (chars text)
found_tab text found utf8 is = first_byte text found is ∙ tab_in_bytes text utf8
