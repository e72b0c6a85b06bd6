-- The columns of a text are those of its grapheme clusters together, since a character without a
-- column is in a cluster with a control character only if that is CR before LF.
use Rattle.std.proofs.Common.{◌≡◌, ℕ, ◌<◌, Bool, true, false, not, cond, ◌&&◌, ◌||◌, List, [], ◌∷◌, ◌++◌, map, sum_by, unwrap_or, refl, sym, ap, subst, ◌∙◌, arith}
use Rattle.std.specs.Char.{is_control}
use Rattle.std.specs.List.{list_all, list_any}
use Rattle.std.specs.Prelude.{encode_utf8_all}
use Rattle.std.specs.Str.{chars, IsUtf8, all_scalars}
use Rattle.std.proofs.lemmas.Bool.{and_parts, cond-true, false≢true}
use Rattle.std.proofs.lemmas.Bool.Decides.{nat_tests}
use Rattle.std.proofs.lemmas.List.Sums.{sum_by-cons}
use Rattle.std.proofs.Math.Bool.{or-false}
use Rattle.std.proofs.lemmas.Str.{chars-encodes, scalars-chars}
use Rattle.ucd_breaks.specs.GraphemeClusterBreak.{grapheme_cluster_break}
use Rattle.ucd_breaks.specs.declared.GraphemeClusterBreak.{GraphemeClusterBreak}
use Rattle.ucd_breaks.specs.declared.GraphemeClusterBreak.TheVariants.{Control, Cr, Extend, Lf, RegionalIndicator}
use Rattle.ucd_breaks.proofs.GraphemeClusterBreakLemmas.{grapheme_cluster_break_stepped}
use Rattle.ucd_table.proofs.Computing.{tables}
use Rattle.ucd_table.proofs.RangedFacts.{points_ok, Stepped-at_points}
use Rattle.ucd_table.proofs.TrieCheck.{all_below, all_below-at}
use Rattle.unicode_segmentation.proofs.Computing.{unicode_segmentation}
use Rattle.unicode_segmentation.specs.Grapheme.{break_by_pair, graphemes, is_grapheme_break, joins_conjunct, joins_emoji, joins_flag}
use Rattle.unicode_segmentation.specs.Segments.{prepend, cut, segments}
use Rattle.unicode_width.specs.Width.{char_width}
use Rattle.textarea_paint.specs.Columns.{char_columns, columns_of}
use Rattle.textarea_paint.proofs.PlainLemmas.{is_single}

-- ---- control characters

is_line_break : GraphemeClusterBreak → Bool
is_line_break Cr = true
is_line_break Lf = true
is_line_break _ = false

is_apart : GraphemeClusterBreak → Bool
is_apart Control = true
is_apart Cr = true
is_apart Lf = true
is_apart _ = false

abbrev passes : ℕ → Bool
passes c = cond (is_control c) (is_apart (grapheme_cluster_break c)) true

all_pass : all_below passes 160 ≡ true
unfolding unicode_segmentation is_apart
all_pass = refl

control-below : (c : ℕ) → is_control c ≡ true → c < 160
control-below c is = grind (arith, nat_tests)

control-apart : (c : ℕ) → is_control c ≡ true → is_apart (grapheme_cluster_break c) ≡ true
control-apart c is = sym (cond-true (is_control c) (is_apart (grapheme_cluster_break c)) true is) ∙ all_below-at passes 160 c all_pass (control-below c is)

line_break-control : (c : ℕ) → is_line_break (grapheme_cluster_break c) ≡ true → is_control c ≡ true
unfolding tables points_ok grapheme_cluster_break_stepped is_line_break
line_break-control c is = Stepped-at_points grapheme_cluster_break grapheme_cluster_break_stepped (λ v. not (is_line_break v)) (λ x v. is_control x) refl c (ap not is)

-- a character of any other value is no control character
visible-if : (c : ℕ) (b : Bool) → is_control c ≡ b → is_apart (grapheme_cluster_break c) ≡ false → is_control c ≡ false
visible-if c true is other = absurd (false≢true (sym other ∙ control-apart c is))
visible-if c false is other = is

single-visible-if : (v : GraphemeClusterBreak) → is_single v ≡ true → is_apart v ≡ false
unfolding is_apart
single-visible-if Control is = absurd (false≢true is)
single-visible-if Cr is = absurd (false≢true is)
single-visible-if Lf is = absurd (false≢true is)
single-visible-if _ is = refl

pub single-visible : (c : ℕ) → is_single (grapheme_cluster_break c) ≡ true → is_control c ≡ false
single-visible c single = visible-if c (is_control c) refl (single-visible-if (grapheme_cluster_break c) single)

pub regional-visible : (c : ℕ) → grapheme_cluster_break c ≡ RegionalIndicator → is_control c ≡ false
unfolding is_apart
regional-visible c regional = visible-if c (is_control c) refl (ap is_apart regional)

pub extend-visible : (c : ℕ) → grapheme_cluster_break c ≡ Extend → is_control c ≡ false
unfolding is_apart
extend-visible c extend = visible-if c (is_control c) refl (ap is_apart extend)

no_column : (c : ℕ) → is_control c ≡ true → char_columns c ≡ 0
unfolding char_width
no_column c is = grind (arith, nat_tests)

-- ---- two characters that no boundary separates

-- if one of them is a control character, they are CR and LF
joined_first : (v w : GraphemeClusterBreak) (b : Bool) → is_apart v ≡ true → unwrap_or (break_by_pair true v w) b ≡ false → (is_line_break v ≡ true) × (is_line_break w ≡ true)
unfolding is_apart is_line_break
joined_first Control w b is joins = absurd (false≢true (sym joins))
joined_first Cr Lf b is joins = (refl, refl)
joined_first Cr _ b is joins = absurd (false≢true (sym joins))
joined_first Lf w b is joins = absurd (false≢true (sym joins))
joined_first _ w b is joins = absurd (false≢true is)

joined_second : (v w : GraphemeClusterBreak) (b : Bool) → is_apart v ≡ false → is_apart w ≡ true → unwrap_or (break_by_pair true v w) b ≡ false → ⊥
unfolding is_apart
joined_second Control w b other is joins = false≢true (sym other)
joined_second Cr w b other is joins = false≢true (sym other)
joined_second Lf w b other is joins = false≢true (sym other)
joined_second _ Control b other is joins = false≢true (sym joins)
joined_second _ Cr b other is joins = false≢true (sym joins)
joined_second _ Lf b other is joins = false≢true (sym joins)
joined_second _ _ b other is joins = false≢true is

record AreJoined (c d : ℕ) : Type 0 where
  both : is_control c ≡ true → is_control d ≡ true
  neither : is_control c ≡ false → is_control d ≡ false

joined : (before : List ℕ) (c d : ℕ) (after : List ℕ) → is_grapheme_break true (c ∷ before) (d ∷ after) ≡ false → AreJoined c d
unfolding is_grapheme_break
joined before c d after joins = record {
  both = λ is. line_break-control d (joined_first (grapheme_cluster_break c) (grapheme_cluster_break d) others (control-apart c is) joins).1;
  neither = λ plain. by (is_control d) refl (is_apart (grapheme_cluster_break c)) refl plain;
}
  where
    others : Bool
    others = not ((true && joins_conjunct (c ∷ before) d) || joins_emoji (c ∷ before) d || joins_flag (c ∷ before) d)

    by : (second : Bool) → is_control d ≡ second → (first : Bool) → is_apart (grapheme_cluster_break c) ≡ first → is_control c ≡ false → is_control d ≡ false
    by false e first f plain = e
    by true e true f plain =
        absurd (false≢true (sym plain ∙ line_break-control c (joined_first (grapheme_cluster_break c) (grapheme_cluster_break d) others f joins).0))
    by true e false f plain = absurd (joined_second (grapheme_cluster_break c) (grapheme_cluster_break d) others f (control-apart d e) joins)

-- ---- the columns of clusters

abbrev pub cluster_width : List ℕ → ℕ
cluster_width cs = cond (list_any is_control cs) 0 (sum_by char_columns cs)

-- a cluster that begins with this character
record IsFirst (c : ℕ) (cluster : List ℕ) : Type 0 where
  same : list_any is_control cluster ≡ is_control c
  none : is_control c ≡ true → sum_by char_columns cluster ≡ 0

width-same : (b : Bool) (n : ℕ) → (b ≡ true → n ≡ 0) → cond b 0 n ≡ n
width-same true n none = sym (none refl)
width-same false n none = refl

first_width : (c : ℕ) (cluster : List ℕ) → IsFirst c cluster → cluster_width cluster ≡ sum_by char_columns cluster
first_width c cluster h = width-same (list_any is_control cluster) (sum_by char_columns cluster) (λ is. h.none (sym h.same ∙ is))

first_alone : (c : ℕ) → IsFirst c (c ∷ [])
first_alone c = record { same = or-false (is_control c); none = λ is. omega (arith, no_column c is) }

or-same : (b second : Bool) → (b ≡ false → second ≡ false) → (b || second) ≡ b
or-same true second plain = refl
or-same false second plain = plain refl

first_more : (c d : ℕ) (cluster : List ℕ) → AreJoined c d → IsFirst d cluster → IsFirst c (c ∷ cluster)
first_more c d cluster both h = record {
  same = ap (λ b. is_control c || b) h.same ∙ or-same (is_control c) (is_control d) both.neither;
  none = λ is. omega (arith, sum_by-cons char_columns c cluster, no_column c is, h.none (both.both is));
}

-- the clusters of characters of which this is the first
record AreClusters (c : ℕ) (cs : List ℕ) (clusters : List (List ℕ)) : Type 0 where
  first : List ℕ
  others : List (List ℕ)
  are : clusters ≡ first ∷ others
  begins : IsFirst c first
  width : sum_by cluster_width clusters ≡ sum_by char_columns (c ∷ cs)
  valid : all_scalars (c ∷ cs) ≡ true → list_all all_scalars clusters ≡ true

alone : (c : ℕ) → AreClusters c [] ((c ∷ []) ∷ [])
alone c = record {
  first = c ∷ [];
  others = [];
  are = refl;
  begins = first_alone c;
  width = omega (arith, first_width c (c ∷ []) (first_alone c));
  valid = λ scalar. grind (arith, nat_tests);
}

apart : (c d : ℕ) (cs : List ℕ) (clusters : List (List ℕ)) → AreClusters d cs clusters → AreClusters c (d ∷ cs) ((c ∷ []) ∷ clusters)
apart c d cs clusters h = record {
  first = c ∷ [];
  others = clusters;
  are = refl;
  begins = first_alone c;
  width =
      omega (arith, sum_by-cons cluster_width (c ∷ []) clusters, first_width c (c ∷ []) (first_alone c), h.width, sum_by-cons char_columns c (d ∷ cs));
  valid = λ scalar. grind (arith, nat_tests, h.valid);
}

together : (c d : ℕ) (cs : List ℕ) (first : List ℕ) (others : List (List ℕ)) → AreJoined c d → (h : AreClusters d cs (first ∷ others)) → IsFirst d first → AreClusters c (d ∷ cs) ((c ∷ first) ∷ others)
together c d cs first others both h begins =
    let more = first_more c d first both begins in
    record {
      first = c ∷ first;
      others = others;
      are = refl;
      begins = more;
      width =
          omega (
            arith,
            sum_by-cons cluster_width (c ∷ first) others,
            sum_by-cons cluster_width first others,
            first_width c (c ∷ first) more,
            first_width d first begins,
            h.width,
            sum_by-cons char_columns c (d ∷ cs),
            sum_by-cons char_columns c first,
          );
      valid = λ scalar. grind (arith, nat_tests, h.valid);
    }

one_more : (b : Bool) (c d : ℕ) (cs : List ℕ) (clusters : List (List ℕ)) → (b ≡ false → AreJoined c d) → AreClusters d cs clusters →
    AreClusters c (d ∷ cs) (cond b ((c ∷ []) ∷ clusters) (prepend (c ∷ []) clusters))
one_more true c d cs clusters both h = apart c d cs clusters h
one_more false c d cs clusters both h =
    subst (λ (ps : List (List ℕ)). AreClusters c (d ∷ cs) (prepend (c ∷ []) ps)) (sym h.are)
    (together c d cs h.first h.others (both refl) (subst (λ (ps : List (List ℕ)). AreClusters d cs ps) h.are h) h.begins)

clusters_are : (before : List ℕ) (c : ℕ) (cs : List ℕ) → AreClusters c cs (cut (is_grapheme_break true) before (c ∷ cs) [])
unfolding cut is_grapheme_break
clusters_are before c [] = alone c
clusters_are before c (d ∷ cs) =
    one_more (is_grapheme_break true (c ∷ before) ((d ∷ cs) ++ [])) c d cs (cut (is_grapheme_break true) (c ∷ before) (d ∷ cs) []) (joined before c d (cs ++ []))
    (clusters_are (c ∷ before) d cs)

-- ---- the columns of a text

pub columns_of-encoded : (cs : List ℕ) → all_scalars cs ≡ true → columns_of (encode_utf8_all cs) ≡ cluster_width cs
unfolding columns_of
columns_of-encoded cs scalar = ap cluster_width (chars-encodes cs scalar)

sum-encoded : (clusters : List (List ℕ)) → list_all all_scalars clusters ≡ true → sum_by columns_of (map encode_utf8_all clusters) ≡ sum_by cluster_width clusters
sum-encoded [] scalar = refl
sum-encoded (cs ∷ clusters) scalar =
    let parts = and_parts (all_scalars cs) (list_all all_scalars clusters) scalar in
    omega (arith, sum_by-cons columns_of (encode_utf8_all cs) (map encode_utf8_all clusters), sum_by-cons cluster_width cs clusters, columns_of-encoded cs parts.0, sum-encoded clusters parts.1)

sum-cut : (cs : List ℕ) → all_scalars cs ≡ true → sum_by columns_of (map encode_utf8_all (cut (is_grapheme_break true) [] cs [])) ≡ sum_by char_columns cs
unfolding cut
sum-cut [] scalar = refl
sum-cut (c ∷ cs) scalar =
    let h = clusters_are [] c cs in
    sum-encoded (cut (is_grapheme_break true) [] (c ∷ cs) []) (h.valid scalar) ∙ h.width

-- the columns of a text's clusters are those of its characters
pub sum-graphemes : (text : List ℕ) → IsUtf8 text → sum_by columns_of (graphemes true text) ≡ sum_by char_columns (chars text)
unfolding segments
sum-graphemes text utf8 = sum-cut (chars text) (scalars-chars text utf8)
