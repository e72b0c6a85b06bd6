-- Plain characters at the start and at the end of texts.
use Rattle.std.proofs.Common.{◌≡◌, ℕ, ◌-◌, ◌<◌, nat_le, nat_lt, Bool, true, false, ◌&&◌, cond, List, [], ◌∷◌, ◌++◌, length, take, drop, get_or, slice_range, refl, sym, ap, ◌∙◌, arith, IsUtf8, IsCharBoundary, encode_utf8_all}
use Rattle.std.specs.List.{list_all}
use Rattle.std.specs.Str.{chars}
use Rattle.std.proofs.lemmas.Bool.{and_parts, cond-true, false≢true}
use Rattle.std.proofs.lemmas.Bool.Decides.{nat_tests}
use Rattle.std.proofs.lemmas.List.{append_assoc, length-append, length-drop, length-take-le}
use Rattle.std.proofs.lemmas.Str.{chars-append, encodes-chars, IsUtf8-between, IsUtf8-take}
use Rattle.ucd_breaks.proofs.Computing.{ucd_breaks}
use Rattle.ucd_derived.proofs.Computing.{ucd_derived}
use Rattle.ucd_table.proofs.TrieCheck.{all_below, all_below-at}
use Rattle.textarea_wrap.specs.Columns.{IsVisible}
use Rattle.textarea_highlight.specs.Display.{display_char, is_tab}
use Rattle.textarea_highlight.specs.Plain.{is_plain}
use Rattle.textarea_highlight.specs.Seams.{BeginsPlain, EndsPlain}
use Rattle.textarea_highlight.specs.Split.{segment_of}
use Rattle.textarea_highlight.proofs.SplitLemmas.{take_split}
use Rattle.textarea_highlight.proofs.WholeLemmas.{chars_split}

-- ---- the tables

abbrev passes : ℕ → Bool
passes c = cond (nat_le 32 c && nat_lt c 127) (is_plain c) true

all_pass : all_below passes 127 ≡ true
unfolding ucd_breaks ucd_derived
all_pass = refl

pub visible-plain : (c : ℕ) → IsVisible c → is_plain c ≡ true
visible-plain c visible =
    let low = visible.0 in
    let high = visible.1 in
    let test : (nat_le 32 c && nat_lt c 127) ≡ true = grind (arith, nat_tests) in
    sym (cond-true (nat_le 32 c && nat_lt c 127) (is_plain c) true test) ∙ all_below-at passes 127 c all_pass high

tab : is_plain 9 ≡ false
unfolding ucd_breaks ucd_derived
tab = refl

plain-tab : (c : ℕ) → is_plain c ≡ true → is_tab c ≡ false
plain-tab c plain = by (is_tab c) refl
  where
    by : (b : Bool) → is_tab c ≡ b → is_tab c ≡ false
    by true e = let same : c ≡ 9 = grind (arith, nat_tests) in absurd (false≢true (sym tab ∙ ap is_plain (sym same) ∙ plain))
    by false e = e

-- it is shown as it is
pub plain-shown : (tab_len column c : ℕ) → is_plain c ≡ true → display_char tab_len column c ≡ c ∷ []
plain-shown tab_len column c plain = rw (plain-tab c plain) refl

-- ---- the characters of two texts, one after the other

pub first_of : (xs ys others : List ℕ) (c : ℕ) → c ∷ others ≡ xs ++ ys → 0 < length xs → (more : List ℕ) × (xs ≡ c ∷ more)
first_of [] ys others c same some = absurd (omega (arith, some))
first_of (x ∷ xs) ys others c same some = (xs, ap (λ n. n ∷ xs) (sym (ap (λ (cs : List ℕ). get_or cs 0 0) same)))

pub last_of : (xs ys others : List ℕ) (c : ℕ) → xs ++ ys ≡ others ++ c ∷ [] → 0 < length ys → (more : List ℕ) × (ys ≡ more ++ c ∷ [])
last_of [] ys others c same some = (others, same)
last_of (x ∷ xs) ys [] c same some = absurd (omega (arith, ap length same, length-append xs ys, some))
last_of (x ∷ xs) ys (other ∷ others) c same some = last_of xs ys others c (ap (drop 1) same) some

begins_with : (text cs rest : List ℕ) → chars text ≡ cs ++ rest → 0 < length cs → list_all is_plain cs ≡ true → BeginsPlain text
begins_with text [] rest is some plain = absurd (omega (arith, some))
begins_with text (c ∷ cs) rest is some plain =
    record { first = c; others = cs ++ rest; chars_are = is; plain = (and_parts (is_plain c) (list_all is_plain cs) plain).0 }

ends_with : (text front cs : List ℕ) → chars text ≡ front ++ cs → 0 < length cs → list_all is_plain cs ≡ true → EndsPlain text
ends_with text front [] is some plain = absurd (omega (arith, some))
ends_with text front (c ∷ []) is some plain =
    record { others = front; last = c; chars_are = is; plain = (and_parts (is_plain c) (list_all is_plain []) plain).0 }
ends_with text front (c ∷ d ∷ cs) is some plain =
    ends_with text (front ++ c ∷ []) (d ∷ cs) (is ∙ sym (append_assoc front (c ∷ []) (d ∷ cs))) (omega arith) (and_parts (is_plain c) (list_all is_plain (d ∷ cs)) plain).1

-- ---- segments of a row

module _ (row : List ℕ) (from to : ℕ) (utf8 : IsUtf8 row) (at_from : IsCharBoundary row from) (at_to : IsCharBoundary row to) (order : from < to) where
  pub some_segment : 0 < length (segment_of row from to)
  some_segment = by (segment_of row from to) (encodes-chars (slice_range row from to) (IsUtf8-between row from to utf8 (omega (arith, order)) at_from at_to))
    where
      size : length (slice_range row from to) ≡ to - from
      size = length-take-le (to - from) (drop from row) (omega (arith, length-drop from row, at_to.0))

      by : (cs : List ℕ) → encode_utf8_all cs ≡ slice_range row from to → 0 < length cs
      by [] same = absurd (omega (arith, ap length same, size, order))
      by (c ∷ cs) same = omega arith

  pub chars_upto : chars (take to row) ≡ chars (take from row) ++ segment_of row from to
  chars_upto =
      ap chars (take_split row from to (omega (arith, order)))
      ∙ chars-append (take from row) (slice_range row from to) (IsUtf8-take row from utf8 at_from)

  -- all characters of the segment are plain
  pub begins_plain : list_all is_plain (segment_of row from to) ≡ true → BeginsPlain (drop from row)
  begins_plain plain =
      begins_with (drop from row) (segment_of row from to) (chars (drop to row)) (chars_split row from to utf8 (omega (arith, order)) at_from at_to) some_segment plain

  pub ends_plain : list_all is_plain (segment_of row from to) ≡ true → EndsPlain (take to row)
  ends_plain plain = ends_with (take to row) (chars (take from row)) (segment_of row from to) chars_upto some_segment plain
