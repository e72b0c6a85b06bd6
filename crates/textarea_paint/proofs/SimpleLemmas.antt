-- A simple character, and a flag, is a grapheme cluster by itself before another one, and the text
-- after it is split as if it were a text of its own.
use Rattle.std.proofs.Common.{◌≡◌, ◌⊎◌, ℕ, ◌+◌, ◌-◌, ◌<◌, ◌≤◌, Bool, true, false, cond, not, ◌&&◌, ◌||◌, ◌==◌, nat_lt, List, [], ◌∷◌, ◌++◌, map, sum_by}
use Rattle.std.proofs.Common.{refl, sym, ap, subst, ◌∙◌, arith, inl, inr}
use Rattle.std.proofs.lemmas.Bool.{and_parts, cond-true, cond-false, eqb-true, false≢true}
use Rattle.std.proofs.lemmas.Bool.Decides.{nat_tests}
use Rattle.std.proofs.lemmas.List.{append-nil}
use Rattle.std.proofs.lemmas.List.Sums.{sum_by-cons}
use Rattle.std.proofs.lemmas.Str.{chars_past_char, scalars-chars}
use Rattle.std.specs.Char.{is_control}
use Rattle.std.specs.Prelude.{encode_utf8, encode_utf8_all}
use Rattle.std.specs.Str.{all_scalars, chars, IsUtf8}
use Rattle.textarea_paint.proofs.PlainLemmas.{BeginsAnew, IsPlain, breaks_between, cut-anew, is_single, no_pair-regional, regional-no_pair, single-extend, single-regional, single-zwj}
use Rattle.textarea_paint.proofs.WidthLemmas.{columns_of-encoded, single-visible}
use Rattle.textarea_paint.specs.Columns.{char_columns, columns_of}
use Rattle.textarea_paint.specs.Simple.{begins_apart, early_ranges, is_flag_half, is_simple, late_ranges}
use Rattle.ucd_breaks.specs.GraphemeClusterBreak.{grapheme_cluster_break, grapheme_cluster_break_number}
use Rattle.ucd_breaks.specs.declared.GraphemeClusterBreak.{GraphemeClusterBreak}
use Rattle.ucd_breaks.specs.declared.GraphemeClusterBreak.TheVariants.{RegionalIndicator}
use Rattle.ucd_breaks.proofs.GraphemeClusterBreakLemmas.{grapheme_cluster_break_number_injective, grapheme_cluster_break_stepped}
use Rattle.ucd_derived.specs.IndicConjunctBreak.{indic_conjunct_break, indic_conjunct_break_number}
use Rattle.ucd_derived.specs.declared.IndicConjunctBreak.{IndicConjunctBreak}
use Rattle.ucd_derived.specs.declared.IndicConjunctBreak.TheVariants as conjunct
use Rattle.ucd_derived.proofs.IndicConjunctBreakLemmas.{indic_conjunct_break_number_injective, indic_conjunct_break_stepped}
use Rattle.ucd_table.specs.Rows.{in_ranges}
use Rattle.ucd_table.proofs.Computing.{tables}
use Rattle.ucd_table.proofs.Facts.{Stepped-everywhere}
use Rattle.ucd_table.proofs.Stepped.{Stepped, of_ranges, zip_stepped}
use Rattle.ucd_table.proofs.TrieCheck.{all_below, all_below-at}
use Rattle.unicode_segmentation.specs.Grapheme.{graphemes, is_grapheme_break, ends_in_linker, ends_in_half_flag, is_extend, is_regional, is_zwj}
use Rattle.unicode_segmentation.specs.Segments.{prepend, cut, segments}
use Rattle.unicode_segmentation.proofs.Computing.{unicode_segmentation}
use Rattle.unicode_width.proofs.Computing.{unicode_width}

-- ---- the tables

has_no_joiner : GraphemeClusterBreak → IndicConjunctBreak → Bool
has_no_joiner g i = is_single g && (indic_conjunct_break_number i == 3)

either_way : Bool → Bool → Bool
either_way simple fits = not simple || fits

joiner_stepped : Stepped (λ c. has_no_joiner (grapheme_cluster_break c) (indic_conjunct_break c))
joiner_stepped = zip_stepped has_no_joiner grapheme_cluster_break indic_conjunct_break grapheme_cluster_break_stepped indic_conjunct_break_stepped

unfoldable pub early_stepped : Stepped (in_ranges early_ranges)
unfolding tables
early_stepped = of_ranges early_ranges refl

unfoldable pub late_stepped : Stepped (in_ranges late_ranges)
unfolding tables
late_stepped = of_ranges late_ranges refl

early_fits : (c : ℕ) → either_way (in_ranges early_ranges c) (has_no_joiner (grapheme_cluster_break c) (indic_conjunct_break c)) ≡ true
unfolding tables grapheme_cluster_break_stepped indic_conjunct_break_stepped early_stepped joiner_stepped has_no_joiner either_way
early_fits c = Stepped-everywhere _ (zip_stepped either_way (in_ranges early_ranges) _ early_stepped joiner_stepped) refl c

late_fits : (c : ℕ) → either_way (in_ranges late_ranges c) (has_no_joiner (grapheme_cluster_break c) (indic_conjunct_break c)) ≡ true
unfolding tables grapheme_cluster_break_stepped indic_conjunct_break_stepped late_stepped joiner_stepped has_no_joiner either_way
late_fits c = Stepped-everywhere _ (zip_stepped either_way (in_ranges late_ranges) _ late_stepped joiner_stepped) refl c

-- no rule that joins characters applies to this one, except those that make emoji or join a jamo
pub record IsApart (c : ℕ) : Type 0 where
  pub single : is_single (grapheme_cluster_break c) ≡ true
  pub no_conjunct : indic_conjunct_break c ≡ conjunct.None

apart-from : (c : ℕ) → has_no_joiner (grapheme_cluster_break c) (indic_conjunct_break c) ≡ true → IsApart c
unfolding has_no_joiner
apart-from c fits =
    let parts = and_parts (is_single (grapheme_cluster_break c)) (indic_conjunct_break_number (indic_conjunct_break c) == 3) fits in
    record { single = parts.0; no_conjunct = indic_conjunct_break_number_injective _ _ (eqb-true _ _ parts.1) }

apart-plain : {c : ℕ} → IsApart c → IsPlain c
apart-plain apart = record { single = apart.single; no_linker = rw apart.no_conjunct refl }

second_holds : (b fits : Bool) → either_way b fits ≡ true → b ≡ true → fits ≡ true
unfolding either_way
second_holds true fits either is = either
second_holds false fits either is = absurd (false≢true is)

pub simple-apart : (c : ℕ) → is_simple c ≡ true → IsApart c
simple-apart c is = apart-from c (by (nat_lt c 0x3000) is)
  where
    by : (early : Bool) → cond early (in_ranges early_ranges c) (in_ranges late_ranges c) ≡ true → has_no_joiner (grapheme_cluster_break c) (indic_conjunct_break c) ≡ true
    by true is = second_holds _ _ (early_fits c) is
    by false is = second_holds _ _ (late_fits c) is

-- ---- halves of flags

-- what is tested of all halves holds of each
each_half : (test : ℕ → Bool) → all_below (λ k. test (0x1F1E6 + k)) 26 ≡ true → (c : ℕ) → is_flag_half c ≡ true → test c ≡ true
each_half test all c is =
    let from : 0x1F1E6 ≤ c = grind (arith, nat_tests) in
    let below : c - 0x1F1E6 < 26 = grind (arith, nat_tests) in
    let at : 0x1F1E6 + (c - 0x1F1E6) ≡ c = omega arith in
    subst (λ x. test x ≡ true) at (all_below-at (λ k. test (0x1F1E6 + k)) 26 (c - 0x1F1E6) all below)

is_half : ℕ → Bool
is_half c = (grapheme_cluster_break_number (grapheme_cluster_break c) == 8) && (indic_conjunct_break_number (indic_conjunct_break c) == 3)

all_halves : all_below (λ k. is_half (0x1F1E6 + k)) 26 ≡ true
unfolding unicode_segmentation is_half
all_halves = refl

pub record IsHalf (c : ℕ) : Type 0 where
  pub regional : grapheme_cluster_break c ≡ RegionalIndicator
  pub no_conjunct : indic_conjunct_break c ≡ conjunct.None

half-from : (c : ℕ) → is_half c ≡ true → IsHalf c
unfolding is_half
half-from c is = record {
  regional = grapheme_cluster_break_number_injective _ _ (grind (arith, nat_tests));
  no_conjunct = indic_conjunct_break_number_injective _ _ (grind (arith, nat_tests));
}

pub flag-half : (c : ℕ) → is_flag_half c ≡ true → IsHalf c
flag-half c is = half-from c (each_half is_half all_halves c is)

-- ---- a character at which a text can begin anew

pub record BeginsCluster (d : ℕ) : Type 0 where
  pub value : (is_single (grapheme_cluster_break d) ≡ true) ⊎ (grapheme_cluster_break d ≡ RegionalIndicator)
  pub no_conjunct : indic_conjunct_break d ≡ conjunct.None
  pub no_extend : is_extend (grapheme_cluster_break d) ≡ false
  pub no_joiner : is_zwj (grapheme_cluster_break d) ≡ false

pub begins : (d : ℕ) → (is_simple d || is_flag_half d) ≡ true → BeginsCluster d
begins d is = by (is_simple d) refl is
  where
    by : (simple : Bool) → is_simple d ≡ simple → (simple || is_flag_half d) ≡ true → BeginsCluster d
    by true e is =
        let apart = simple-apart d e in
        record { value = inl apart.single; no_conjunct = apart.no_conjunct; no_extend = single-extend _ apart.single; no_joiner = single-zwj _ apart.single }
    by false e is =
        let half = flag-half d is in
        record { value = inr half.regional; no_conjunct = half.no_conjunct; no_extend = ap is_extend half.regional; no_joiner = ap is_zwj half.regional }

pub anew : (d : ℕ) → BeginsCluster d → (before : List ℕ) → ends_in_half_flag before ≡ false → BeginsAnew d before
unfolding ends_in_linker ends_in_half_flag
anew d begins before whole = record {
  linker = rw begins.no_conjunct refl;
  flag = ap (λ e. is_regional (grapheme_cluster_break d) && not e) whole;
  no_extend = begins.no_extend;
  no_joiner = begins.no_joiner;
}

-- ---- the first cluster of a text

module _ (c : ℕ) (apart : IsApart c) where
  not_half : is_regional (grapheme_cluster_break c) ≡ false
  not_half = single-regional (grapheme_cluster_break c) apart.single

  pub whole-simple : ends_in_half_flag (c ∷ []) ≡ false
  unfolding ends_in_half_flag
  whole-simple = rw not_half refl

  break-simple : (d : ℕ) (after : List ℕ) → BeginsCluster d → is_grapheme_break true (c ∷ []) (d ∷ after) ≡ true
  unfolding is_grapheme_break ends_in_linker ends_in_half_flag
  break-simple d after next = by next.value
    where
      by : (is_single (grapheme_cluster_break d) ≡ true) ⊎ (grapheme_cluster_break d ≡ RegionalIndicator) → is_grapheme_break true (c ∷ []) (d ∷ after) ≡ true
      by (inl e) = breaks_between c d (apart-plain apart) (record { single = e; no_linker = rw next.no_conjunct refl }) [] after
      by (inr e) =
          rw (e, no_pair-regional (grapheme_cluster_break c) apart.single, apart.no_conjunct, single-zwj (grapheme_cluster_break c) apart.single, not_half) refl

  last-simple : cut (is_grapheme_break true) [] (c ∷ []) [] ≡ (c ∷ []) ∷ cut (is_grapheme_break true) [] [] []
  unfolding cut is_grapheme_break
  last-simple = refl

  -- a simple character
  cut-simple : (cs : List ℕ) → begins_apart cs ≡ true → cut (is_grapheme_break true) [] (c ∷ cs) [] ≡ (c ∷ []) ∷ cut (is_grapheme_break true) [] cs []
  unfolding cut
  cut-simple [] is = last-simple
  cut-simple (d ∷ cs) is =
      let next = begins d is in
      cond-true _ _ _ (break-simple d (cs ++ []) next)
      ∙ ap (λ (pieces : List (List ℕ)). (c ∷ []) ∷ pieces) (cut-anew d (c ∷ []) (anew d next (c ∷ []) whole-simple) cs)

module _ (b c : ℕ) (first : IsHalf b) (second : IsHalf c) where
  joins-flag : (after : List ℕ) → is_grapheme_break true (b ∷ []) (c ∷ after) ≡ false
  unfolding is_grapheme_break ends_in_linker ends_in_half_flag
  joins-flag after = rw (first.regional, first.no_conjunct, second.regional) refl

  whole-flag : ends_in_half_flag (c ∷ b ∷ []) ≡ false
  unfolding ends_in_half_flag
  whole-flag = rw (first.regional, second.regional) refl

  break-flag : (d : ℕ) (after : List ℕ) → BeginsCluster d → is_grapheme_break true (c ∷ b ∷ []) (d ∷ after) ≡ true
  unfolding is_grapheme_break ends_in_linker ends_in_half_flag
  break-flag d after next = by next.value
    where
      by : (is_single (grapheme_cluster_break d) ≡ true) ⊎ (grapheme_cluster_break d ≡ RegionalIndicator) → is_grapheme_break true (c ∷ b ∷ []) (d ∷ after) ≡ true
      by (inl e) =
          rw (second.regional, regional-no_pair (grapheme_cluster_break d) e, second.no_conjunct, first.regional) refl
      by (inr e) = rw (first.regional, second.regional, second.no_conjunct, e) refl

  last-flag : cut (is_grapheme_break true) (b ∷ []) (c ∷ []) [] ≡ (c ∷ []) ∷ cut (is_grapheme_break true) [] [] []
  unfolding cut is_grapheme_break
  last-flag = refl

  cut-second : (cs : List ℕ) → begins_apart cs ≡ true → cut (is_grapheme_break true) (b ∷ []) (c ∷ cs) [] ≡ (c ∷ []) ∷ cut (is_grapheme_break true) [] cs []
  unfolding cut
  cut-second [] is = last-flag
  cut-second (d ∷ cs) is =
      let next = begins d is in
      cond-true _ _ _ (break-flag d (cs ++ []) next)
      ∙ ap (λ (pieces : List (List ℕ)). (c ∷ []) ∷ pieces) (cut-anew d (c ∷ b ∷ []) (anew d next (c ∷ b ∷ []) whole-flag) cs)

  -- a flag
  pub cut-flag : (cs : List ℕ) → begins_apart cs ≡ true → cut (is_grapheme_break true) [] (b ∷ c ∷ cs) [] ≡ (b ∷ c ∷ []) ∷ cut (is_grapheme_break true) [] cs []
  unfolding cut
  cut-flag cs is = cond-false _ _ _ (joins-flag (cs ++ [])) ∙ ap (prepend (b ∷ [])) (cut-second cs is)

pub graphemes-simple : (text after : List ℕ) (c : ℕ) → IsUtf8 text → text ≡ encode_utf8 c ++ after → is_simple c ≡ true → begins_apart (chars after) ≡ true →
    graphemes true text ≡ encode_utf8 c ∷ graphemes true after
unfolding segments
graphemes-simple text after c utf8 is simple apart =
    ap (λ cs. map encode_utf8_all (cut (is_grapheme_break true) [] cs [])) (chars_past_char text after c utf8 is)
    ∙ ap (map encode_utf8_all) (cut-simple c (simple-apart c simple) (chars after) apart)
    ∙ ap (λ (bytes : List ℕ). bytes ∷ map encode_utf8_all (cut (is_grapheme_break true) [] (chars after) [])) (append-nil (encode_utf8 c))

-- ---- the columns of the first cluster

pub first-scalar : (c : ℕ) (cs : List ℕ) → all_scalars (c ∷ cs) ≡ true → all_scalars (c ∷ []) ≡ true
first-scalar c cs scalar = grind (arith, nat_tests)

-- its columns, without a text
pub columns-scalar : (c : ℕ) → all_scalars (c ∷ []) ≡ true → is_simple c ≡ true → columns_of (encode_utf8 c) ≡ char_columns c
columns-scalar c scalar simple =
    ap columns_of (sym (append-nil (encode_utf8 c))) ∙ columns_of-encoded (c ∷ []) scalar
    ∙ cond-false (is_control c || false) 0 (sum_by char_columns (c ∷ [])) (ap (λ (b : Bool). b || false) (single-visible c (simple-apart c simple).single))
    ∙ omega (arith, sum_by-cons char_columns c [])

pub columns-simple : (text after : List ℕ) (c : ℕ) → IsUtf8 text → text ≡ encode_utf8 c ++ after → is_simple c ≡ true → columns_of (encode_utf8 c) ≡ char_columns c
columns-simple text after c utf8 is simple =
    columns-scalar c (first-scalar c (chars after) (ap all_scalars (sym (chars_past_char text after c utf8 is)) ∙ scalars-chars text utf8)) simple

all_one : all_below (λ k. char_columns (0x1F1E6 + k) == 1) 26 ≡ true
unfolding tables unicode_width
all_one = refl

pub half-column : (c : ℕ) → is_flag_half c ≡ true → char_columns c ≡ 1
half-column c is = eqb-true _ _ (each_half (λ x. char_columns x == 1) all_one c is)
