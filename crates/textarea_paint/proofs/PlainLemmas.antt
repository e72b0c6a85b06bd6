-- Characters that no rule joins with each other: between two of them a text is split, and the text
-- from the second one on is split as if it were a text of its own.
use Rattle.std.proofs.lemmas.Grind.{common_steps}
use Rattle.std.proofs.Common.{◌≡◌, ℕ, Bool, true, false, cond, not, ◌&&◌, ◌||◌, List, [], ◌∷◌, ◌++◌, map, None, refl, sym, ap, ap₂, ◌∙◌, arith}
use Rattle.std.proofs.lemmas.Bool.{false≢true}
use Rattle.ucd_breaks.specs.declared.GraphemeClusterBreak.{GraphemeClusterBreak}
use Rattle.ucd_breaks.specs.declared.GraphemeClusterBreak.TheVariants.{Extend, Lv, Lvt, Other, RegionalIndicator, Zwj}
use Rattle.ucd_derived.specs.declared.IndicConjunctBreak.{IndicConjunctBreak}
use Rattle.ucd_derived.specs.declared.IndicConjunctBreak.TheVariants as conjunct
use Rattle.unicode_segmentation.specs.Emoji.{is_extended_pictographic}
use Rattle.unicode_segmentation.specs.GraphemeClusterBreak.{grapheme_cluster_break}
use Rattle.unicode_segmentation.specs.IndicConjunctBreak.{indic_conjunct_break}
use Rattle.unicode_segmentation.specs.Grapheme.{is_grapheme_break, break_by_pair, ends_in_linker, ends_in_pictograph, ends_in_half_flag, is_extend, is_regional, is_zwj}
use Rattle.unicode_segmentation.specs.Segments.{prepend, cut}

-- ---- the tables

-- neither a mark nor another value that joins a character with any other one: a Hangul syllable is
-- joined only with a jamo
abbrev pub is_single : GraphemeClusterBreak → Bool
is_single Other = true
is_single Lv = true
is_single Lvt = true
is_single _ = false

-- a consonant right after the character isn't joined with it
abbrev pub ends_conjunct : IndicConjunctBreak → Bool
ends_conjunct conjunct.None = true
ends_conjunct conjunct.Consonant = true
ends_conjunct _ = false

-- no rule joins this character with another such one
pub record IsPlain (c : ℕ) : Type 0 where
  pub single : is_single (grapheme_cluster_break c) ≡ true
  pub no_linker : ends_conjunct (indic_conjunct_break c) ≡ true

-- ---- the rules

ends_in_no_linker : (v : IndicConjunctBreak) (vs : List IndicConjunctBreak) → ends_conjunct v ≡ true → ends_in_linker (v ∷ vs) ≡ false
unfolding ends_in_linker
ends_in_no_linker conjunct.None vs is = refl
ends_in_no_linker conjunct.Consonant vs is = refl
ends_in_no_linker conjunct.Linker vs is = absurd (false≢true is)
ends_in_no_linker conjunct.Extend vs is = absurd (false≢true is)

pub single-extend : (v : GraphemeClusterBreak) → is_single v ≡ true → is_extend v ≡ false
single-extend Extend is = absurd (false≢true is)
single-extend _ is = refl

pub single-regional : (v : GraphemeClusterBreak) → is_single v ≡ true → is_regional v ≡ false
single-regional RegionalIndicator is = absurd (false≢true is)
single-regional _ is = refl

pub single-zwj : (v : GraphemeClusterBreak) → is_single v ≡ true → is_zwj v ≡ false
single-zwj Zwj is = absurd (false≢true is)
single-zwj _ is = refl

pub no_pair : (v w : GraphemeClusterBreak) → is_single v ≡ true → is_single w ≡ true → break_by_pair true v w ≡ None
no_pair Other Other is is' = refl
no_pair Other Lv is is' = refl
no_pair Other Lvt is is' = refl
no_pair Lv Other is is' = refl
no_pair Lv Lv is is' = refl
no_pair Lv Lvt is is' = refl
no_pair Lvt Other is is' = refl
no_pair Lvt Lv is is' = refl
no_pair Lvt Lvt is is' = refl
no_pair Other _ is is' = absurd (false≢true is')
no_pair Lv _ is is' = absurd (false≢true is')
no_pair Lvt _ is is' = absurd (false≢true is')
no_pair _ _ is is' = absurd (false≢true is)

-- half a flag isn't joined with such a character before it or after it
pub no_pair-regional : (v : GraphemeClusterBreak) → is_single v ≡ true → break_by_pair true v RegionalIndicator ≡ None
no_pair-regional Other is = refl
no_pair-regional Lv is = refl
no_pair-regional Lvt is = refl
no_pair-regional _ is = absurd (false≢true is)

pub regional-no_pair : (v : GraphemeClusterBreak) → is_single v ≡ true → break_by_pair true RegionalIndicator v ≡ None
regional-no_pair Other is = refl
regional-no_pair Lv is = refl
regional-no_pair Lvt is = refl
regional-no_pair _ is = absurd (false≢true is)

-- two plain characters are in two clusters
pub breaks_between : (c d : ℕ) → IsPlain c → IsPlain d → (before after : List ℕ) → is_grapheme_break true (c ∷ before) (d ∷ after) ≡ true
unfolding is_grapheme_break ends_in_half_flag
breaks_between c d left right before after =
    rw (
      no_pair (grapheme_cluster_break c) (grapheme_cluster_break d) left.single right.single,
      ends_in_no_linker (indic_conjunct_break c) (map indic_conjunct_break before) left.no_linker,
      single-zwj (grapheme_cluster_break c) left.single,
      single-regional (grapheme_cluster_break c) left.single,
    ) refl

-- ---- a text that is split from a character on without regard to the text before

-- the text before the character makes no difference
pub record BeginsAnew (d : ℕ) (before : List ℕ) : Type 0 where
  pub linker : ends_in_linker (map indic_conjunct_break (d ∷ before)) ≡ ends_in_linker (map indic_conjunct_break (d ∷ []))
  pub flag : ends_in_half_flag (d ∷ before) ≡ ends_in_half_flag (d ∷ [])
  pub no_extend : is_extend (grapheme_cluster_break d) ≡ false
  pub no_joiner : is_zwj (grapheme_cluster_break d) ≡ false

module _ (d : ℕ) (before : List ℕ) (anew : BeginsAnew d before) where
  linker-anew : (xs : List ℕ) → ends_in_linker (map indic_conjunct_break (xs ++ d ∷ before)) ≡ ends_in_linker (map indic_conjunct_break (xs ++ d ∷ []))
  unfolding ends_in_linker
  linker-anew [] = anew.linker
  linker-anew (x ∷ xs) = grind (arith, common_steps, linker-anew xs)

  pictograph-anew : (xs : List ℕ) → ends_in_pictograph (xs ++ d ∷ before) ≡ ends_in_pictograph (xs ++ d ∷ [])
  unfolding ends_in_pictograph
  pictograph-anew [] = rw anew.no_extend refl
  pictograph-anew (x ∷ xs) = ap (λ e. is_extended_pictographic x || (is_extend (grapheme_cluster_break x) && e)) (pictograph-anew xs)

  flag-anew : (xs : List ℕ) → ends_in_half_flag (xs ++ d ∷ before) ≡ ends_in_half_flag (xs ++ d ∷ [])
  unfolding ends_in_half_flag
  flag-anew [] = anew.flag
  flag-anew (x ∷ xs) = ap (λ e. is_regional (grapheme_cluster_break x) && not e) (flag-anew xs)

  break-anew : (xs after : List ℕ) → is_grapheme_break true (xs ++ d ∷ before) after ≡ is_grapheme_break true (xs ++ d ∷ []) after
  unfolding is_grapheme_break
  break-anew [] [] = refl
  break-anew (x ∷ xs) [] = refl
  break-anew [] (next ∷ after) = grind (arith, common_steps, anew.no_joiner, linker-anew [], flag-anew [])
  break-anew (x ∷ xs) (next ∷ after) = grind (arith, common_steps, linker-anew (x ∷ xs), pictograph-anew xs, flag-anew (x ∷ xs))

  later-anew : (xs cs : List ℕ) → cut (is_grapheme_break true) (xs ++ d ∷ before) cs [] ≡ cut (is_grapheme_break true) (xs ++ d ∷ []) cs []
  unfolding cut
  later-anew xs [] = refl
  later-anew xs (c ∷ cs) =
      ap₂ (λ (b : Bool) (rest : List (List ℕ)). cond b ((c ∷ []) ∷ rest) (prepend (c ∷ []) rest)) (break-anew (c ∷ xs) (cs ++ [])) (later-anew (c ∷ xs) cs)

  pub cut-anew : (cs : List ℕ) → cut (is_grapheme_break true) before (d ∷ cs) [] ≡ cut (is_grapheme_break true) [] (d ∷ cs) []
  unfolding cut
  cut-anew cs =
      ap₂ (λ (b : Bool) (rest : List (List ℕ)). cond b ((d ∷ []) ∷ rest) (prepend (d ∷ []) rest)) (break-anew [] (cs ++ [])) (later-anew [] cs)

pub plain-anew : (d : ℕ) → IsPlain d → (before : List ℕ) → BeginsAnew d before
unfolding ends_in_half_flag
plain-anew d plain before = record {
  linker = ends_in_no_linker (indic_conjunct_break d) (map indic_conjunct_break before) plain.no_linker ∙ sym (ends_in_no_linker (indic_conjunct_break d) [] plain.no_linker);
  flag = rw (single-regional (grapheme_cluster_break d) plain.single) refl;
  no_extend = single-extend (grapheme_cluster_break d) plain.single;
  no_joiner = single-zwj (grapheme_cluster_break d) plain.single;
}
