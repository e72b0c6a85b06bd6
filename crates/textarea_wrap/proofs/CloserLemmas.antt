-- The characters after which a line can be cut, between units and between clusters.
use Rattle.std.proofs.Common.{◌≡◌, ℕ, Bool, true, false, cond, not, ◌&&◌, ◌||◌, List, [], ◌∷◌, ◌++◌, map, unwrap_or, refl, sym, ap, ap₂, ◌∙◌}
use Rattle.std.proofs.lemmas.Bool.{and_parts, false≢true, not-true}
use Rattle.std.proofs.lemmas.List.{map-append}
use Rattle.ucd_breaks.specs.GraphemeClusterBreak.{grapheme_cluster_break}
use Rattle.ucd_breaks.specs.declared.GraphemeClusterBreak.{GraphemeClusterBreak}
use Rattle.ucd_breaks.specs.declared.GraphemeClusterBreak.TheVariants as cluster
use Rattle.ucd_breaks.specs.WordBreak.{word_break}
use Rattle.ucd_breaks.specs.declared.WordBreak.{WordBreak}
use Rattle.ucd_breaks.specs.declared.WordBreak.TheVariants.{Extend, Format, Other, WSegSpace, Zwj}
use Rattle.ucd_derived.specs.IndicConjunctBreak.{indic_conjunct_break}
use Rattle.ucd_derived.specs.declared.IndicConjunctBreak.{IndicConjunctBreak}
use Rattle.ucd_derived.specs.declared.IndicConjunctBreak.TheVariants as conjunct
use Rattle.ucd_emoji.specs.Binary.{is_extended_pictographic}
use Rattle.unicode_segmentation.specs.Grapheme as Grapheme
use Rattle.unicode_segmentation.specs.Grapheme.{ends_in_linker, ends_in_pictograph, ends_in_half_flag, is_consonant, is_extend, is_grapheme_break, is_zwj}
use Rattle.unicode_segmentation.specs.Segments.{Rule}
use Rattle.unicode_segmentation.specs.Word.{break_by_pair, is_ignored, is_regional, significant, starts_with_half_flag, joins, value_at, is_word_break}
use Rattle.unicode_segmentation.proofs.BoolLemmas.{and-false, or-false}
use Rattle.textarea_wrap.specs.Partings.{begins_cluster, begins_word, ends_clusters, is_closed, joins_no_conjunct, is_loose, parts_clusters, parts_words}
use Rattle.textarea_wrap.proofs.PartedLemmas.{IsCloser}

-- ---- between units

-- no rule joins such a value to anything
joins-left : (far_left v right far_right : WordBreak) → is_loose v ≡ true → joins far_left v right far_right ≡ false
joins-left far_left WSegSpace right far_right h = simp (and-false, or-false)
joins-left far_left Other right far_right h = simp (and-false, or-false)
joins-left far_left _ right far_right h = absurd (false≢true h)

joins-right : (far_left left v far_right : WordBreak) → is_loose v ≡ true → joins far_left left v far_right ≡ false
joins-right far_left left WSegSpace far_right h = simp (and-false, or-false)
joins-right far_left left Other far_right h = simp (and-false, or-false)
joins-right far_left left _ far_right h = absurd (false≢true h)

joins-far_left : (v left right far_right : WordBreak) → is_loose v ≡ true → joins v left right far_right ≡ joins Other left right far_right
joins-far_left WSegSpace left right far_right h = refl
joins-far_left Other left right far_right h = refl
joins-far_left _ left right far_right h = absurd (false≢true h)

loose_kept : (v : WordBreak) → is_loose v ≡ true → is_ignored v ≡ false
loose_kept WSegSpace h = refl
loose_kept Other h = refl
loose_kept _ h = absurd (false≢true h)

loose_alone : (v : WordBreak) → is_loose v ≡ true → is_regional v ≡ false
loose_alone WSegSpace h = refl
loose_alone Other h = refl
loose_alone _ h = absurd (false≢true h)

-- by the two values alone, there is a boundary between them
space_breaks : (w : WordBreak) (emoji : Bool) → begins_word w ≡ true → unwrap_or (break_by_pair WSegSpace w emoji) true ≡ true
space_breaks Extend emoji h = absurd (false≢true h)
space_breaks Format emoji h = absurd (false≢true h)
space_breaks Zwj emoji h = absurd (false≢true h)
space_breaks WSegSpace emoji h = absurd (false≢true h)
space_breaks _ emoji h = refl

other_breaks : (w : WordBreak) (emoji : Bool) → begins_word w ≡ true → unwrap_or (break_by_pair Other w emoji) true ≡ true
other_breaks Extend emoji h = absurd (false≢true h)
other_breaks Format emoji h = absurd (false≢true h)
other_breaks Zwj emoji h = absurd (false≢true h)
other_breaks WSegSpace emoji h = absurd (false≢true h)
other_breaks _ emoji h = refl

pair_breaks : (v w : WordBreak) (emoji : Bool) → is_loose v ≡ true → begins_word w ≡ true → unwrap_or (break_by_pair v w emoji) true ≡ true
pair_breaks WSegSpace w emoji h k = space_breaks w emoji k
pair_breaks Other w emoji h k = other_breaks w emoji k
pair_breaks _ w emoji h k = absurd (false≢true h)

no_flag : starts_with_half_flag [] ≡ false
unfolding starts_with_half_flag
no_flag = refl

module _ (v : WordBreak) (loose : is_loose v ≡ true) where
  half_flag-over : (values rest : List WordBreak) → starts_with_half_flag (values ++ v ∷ rest) ≡ starts_with_half_flag values
  unfolding starts_with_half_flag
  half_flag-over [] rest = ap (λ b. b && not (starts_with_half_flag rest)) (loose_alone v loose)
  half_flag-over (w ∷ values) rest = ap (λ b. is_regional w && not b) (half_flag-over values rest)

  -- before the values that are read, the value is as none
  joins-over : (values rest : List WordBreak) (right far_right : WordBreak) →
      joins (value_at (values ++ v ∷ rest) 1) (value_at (values ++ v ∷ rest) 0) right far_right ≡ joins (value_at values 1) (value_at values 0) right far_right
  joins-over [] rest right far_right = joins-left (value_at (v ∷ rest) 1) v right far_right loose ∙ sym (joins-left Other Other right far_right refl)
  joins-over (w ∷ []) rest right far_right = joins-far_left v w right far_right loose
  joins-over (w ∷ (x ∷ values)) rest right far_right = refl

module _ (d : ℕ) (loose : is_loose (word_break d) ≡ true) where
  significant-over : (cs rest : List ℕ) → significant (cs ++ d ∷ rest) ≡ significant cs ++ word_break d ∷ significant rest
  unfolding significant
  significant-over [] rest = ap (λ b. cond b (significant rest) (word_break d ∷ significant rest)) (loose_kept (word_break d) loose)
  significant-over (c ∷ cs) rest =
      ap (λ t. cond (is_ignored (word_break c)) t (word_break c ∷ t)) (significant-over cs rest) ∙ kept (is_ignored (word_break c))
    where
      kept : (b : Bool) → cond b (significant cs ++ word_break d ∷ significant rest) (word_break c ∷ (significant cs ++ word_break d ∷ significant rest))
          ≡ cond b (significant cs) (word_break c ∷ significant cs) ++ word_break d ∷ significant rest
      kept true = refl
      kept false = refl

  first-over : (cs after : List ℕ) → value_at (significant ((cs ++ d ∷ []) ++ after)) 0 ≡ value_at (significant (cs ++ d ∷ [])) 0
  unfolding significant
  first-over [] after =
      ap (λ b. value_at (cond b (significant after) (word_break d ∷ significant after)) 0) (loose_kept (word_break d) loose)
      ∙ ap (λ b. value_at (cond b [] (word_break d ∷ [])) 0) (sym (loose_kept (word_break d) loose))
  first-over (c ∷ cs) after = kept (is_ignored (word_break c)) (first-over cs after)
    where
      kept : (b : Bool) → value_at (significant ((cs ++ d ∷ []) ++ after)) 0 ≡ value_at (significant (cs ++ d ∷ [])) 0 →
          value_at (cond b (significant ((cs ++ d ∷ []) ++ after)) (word_break c ∷ significant ((cs ++ d ∷ []) ++ after))) 0
          ≡ value_at (cond b (significant (cs ++ d ∷ [])) (word_break c ∷ significant (cs ++ d ∷ []))) 0
      kept true e = e
      kept false e = refl

  words-later : (c : ℕ) (between before after : List ℕ) → is_word_break (c ∷ (between ++ d ∷ before)) after ≡ is_word_break (c ∷ between) after
  unfolding is_word_break
  words-later c between before [] = refl
  words-later c between before (next ∷ after) =
      let values = significant (c ∷ between) in
      let pair = break_by_pair (word_break c) (word_break next) (is_extended_pictographic next) in
      let far = value_at (significant after) 0 in
      ap (λ vs. unwrap_or pair (not (joins (value_at vs 1) (value_at vs 0) (word_break next) far || (starts_with_half_flag vs && is_regional (word_break next))))) (significant-over (c ∷ between) before)
      ∙ ap₂ (λ j f. unwrap_or pair (not (j || (f && is_regional (word_break next))))) (joins-over (word_break d) loose values (significant before) (word_break next) far)
      (half_flag-over (word_break d) loose values (significant before))

  words-same : (before after : List ℕ) → is_word_break (d ∷ before) after ≡ is_word_break (d ∷ []) after
  unfolding is_word_break significant
  words-same before [] = refl
  words-same before (next ∷ after) =
      let pair = break_by_pair (word_break d) (word_break next) (is_extended_pictographic next) in
      let far = value_at (significant after) 0 in
      let result = λ (vs : List WordBreak). unwrap_or pair (not (joins (value_at vs 1) (value_at vs 0) (word_break next) far || (starts_with_half_flag vs && is_regional (word_break next)))) in
      let none : (rest : List ℕ) → result (significant (d ∷ rest)) ≡ unwrap_or pair (not (joins Other Other (word_break next) far || (starts_with_half_flag [] && is_regional (word_break next)))) = λ rest.
      ap result (significant-over [] rest)
      ∙ ap₂ (λ j f. unwrap_or pair (not (j || (f && is_regional (word_break next))))) (joins-over (word_break d) loose [] (significant rest) (word_break next) far)
      (half_flag-over (word_break d) loose [] (significant rest)) in
      none before ∙ sym (none [])

  words-earlier : (c : ℕ) (before between after : List ℕ) → is_word_break (c ∷ before) ((between ++ d ∷ []) ++ after) ≡ is_word_break (c ∷ before) (between ++ d ∷ [])
  unfolding is_word_break
  words-earlier c before [] after =
      let vs = significant (c ∷ before) in
      let pair = break_by_pair (word_break c) (word_break d) (is_extended_pictographic d) in
      let flag = starts_with_half_flag vs && is_regional (word_break d) in
      let none : (far : WordBreak) → joins (value_at vs 1) (value_at vs 0) (word_break d) far ≡ false = λ far.
      joins-right (value_at vs 1) (value_at vs 0) (word_break d) far loose in
      ap (λ j. unwrap_or pair (not (j || flag))) (none (value_at (significant after) 0) ∙ sym (none (value_at (significant []) 0)))
  words-earlier c before (next ∷ between) after =
      let vs = significant (c ∷ before) in
      ap (λ far. unwrap_or (break_by_pair (word_break c) (word_break next) (is_extended_pictographic next))
      (not (joins (value_at vs 1) (value_at vs 0) (word_break next) far || (starts_with_half_flag vs && is_regional (word_break next))))) (first-over between after)

  words-last : is_word_break (d ∷ []) [] ≡ true
  unfolding is_word_break
  words-last = refl

  words-apart : (c : ℕ) (after : List ℕ) → begins_word (word_break c) ≡ true → is_word_break (d ∷ []) (c ∷ after) ≡ true
  unfolding is_word_break significant
  words-apart c after begins =
      let pair = break_by_pair (word_break d) (word_break c) (is_extended_pictographic c) in
      let far = value_at (significant after) 0 in
      ap (λ vs. unwrap_or pair (not (joins (value_at vs 1) (value_at vs 0) (word_break c) far || (starts_with_half_flag vs && is_regional (word_break c))))) (significant-over [] [])
      ∙ ap₂ (λ j f. unwrap_or pair (not (j || (f && is_regional (word_break c))))) (joins-over (word_break d) loose [] [] (word_break c) far ∙ joins-left Other Other (word_break c) far refl)
      (half_flag-over (word_break d) loose [] [] ∙ no_flag)
      ∙ pair_breaks (word_break d) (word_break c) (is_extended_pictographic c) loose begins

  closes_units : IsCloser is_word_break d
  closes_units = record { last = words-last; same = words-same; later = words-later; earlier = words-earlier }

-- ---- between clusters

linker-over : (v : IndicConjunctBreak) → joins_no_conjunct v ≡ true → (values rest : List IndicConjunctBreak) → ends_in_linker (values ++ v ∷ rest) ≡ ends_in_linker values
unfolding ends_in_linker
linker-over conjunct.None h [] rest = refl
linker-over conjunct.Consonant h [] rest = refl
linker-over _ h [] rest = absurd (false≢true h)
linker-over v h (conjunct.Linker ∷ values) rest = refl
linker-over v h (conjunct.Extend ∷ values) rest = linker-over v h values rest
linker-over v h (_ ∷ values) rest = refl

closed_extend : (v : GraphemeClusterBreak) → is_closed v ≡ true → is_extend v ≡ false
closed_extend cluster.Other h = refl
closed_extend cluster.Lv h = refl
closed_extend cluster.Lvt h = refl
closed_extend _ h = absurd (false≢true h)

closed_zwj : (v : GraphemeClusterBreak) → is_closed v ≡ true → is_zwj v ≡ false
closed_zwj cluster.Other h = refl
closed_zwj cluster.Lv h = refl
closed_zwj cluster.Lvt h = refl
closed_zwj _ h = absurd (false≢true h)

closed_regional : (v : GraphemeClusterBreak) → is_closed v ≡ true → Grapheme.is_regional v ≡ false
closed_regional cluster.Other h = refl
closed_regional cluster.Lv h = refl
closed_regional cluster.Lvt h = refl
closed_regional _ h = absurd (false≢true h)

other_begins : (w : GraphemeClusterBreak) → begins_cluster w ≡ true → unwrap_or (Grapheme.break_by_pair true cluster.Other w) true ≡ true
other_begins cluster.Other h = refl
other_begins cluster.L h = refl
other_begins cluster.Lv h = refl
other_begins cluster.Lvt h = refl
other_begins _ h = absurd (false≢true h)

lv_begins : (w : GraphemeClusterBreak) → begins_cluster w ≡ true → unwrap_or (Grapheme.break_by_pair true cluster.Lv w) true ≡ true
lv_begins cluster.Other h = refl
lv_begins cluster.L h = refl
lv_begins cluster.Lv h = refl
lv_begins cluster.Lvt h = refl
lv_begins _ h = absurd (false≢true h)

lvt_begins : (w : GraphemeClusterBreak) → begins_cluster w ≡ true → unwrap_or (Grapheme.break_by_pair true cluster.Lvt w) true ≡ true
lvt_begins cluster.Other h = refl
lvt_begins cluster.L h = refl
lvt_begins cluster.Lv h = refl
lvt_begins cluster.Lvt h = refl
lvt_begins _ h = absurd (false≢true h)

clusters_break : (v w : GraphemeClusterBreak) → is_closed v ≡ true → begins_cluster w ≡ true → unwrap_or (Grapheme.break_by_pair true v w) true ≡ true
clusters_break cluster.Other w h k = other_begins w k
clusters_break cluster.Lv w h k = lv_begins w k
clusters_break cluster.Lvt w h k = lvt_begins w k
clusters_break _ w h k = absurd (false≢true h)

no_linker : ends_in_linker [] ≡ false
unfolding ends_in_linker
no_linker = refl

no_half_flag : ends_in_half_flag [] ≡ false
unfolding ends_in_half_flag
no_half_flag = refl

module _ (d : ℕ) (closed : is_closed (grapheme_cluster_break d) ≡ true) (final : joins_no_conjunct (indic_conjunct_break d) ≡ true) (no_emoji : is_extended_pictographic d ≡ false) where
  pictograph-over : (cs rest : List ℕ) → ends_in_pictograph (cs ++ d ∷ rest) ≡ ends_in_pictograph cs
  unfolding ends_in_pictograph
  pictograph-over [] rest =
      ap₂ (λ p e. p || (e && ends_in_pictograph rest)) no_emoji (closed_extend (grapheme_cluster_break d) closed)
  pictograph-over (c ∷ cs) rest = ap (λ b. is_extended_pictographic c || (is_extend (grapheme_cluster_break c) && b)) (pictograph-over cs rest)

  flag-over : (cs rest : List ℕ) → ends_in_half_flag (cs ++ d ∷ rest) ≡ ends_in_half_flag cs
  unfolding ends_in_half_flag
  flag-over [] rest = ap (λ b. b && not (ends_in_half_flag rest)) (closed_regional (grapheme_cluster_break d) closed)
  flag-over (c ∷ cs) rest = ap (λ b. Grapheme.is_regional (grapheme_cluster_break c) && not b) (flag-over cs rest)

  conjunct-over : (cs rest : List ℕ) → ends_in_linker (map indic_conjunct_break (cs ++ d ∷ rest)) ≡ ends_in_linker (map indic_conjunct_break cs)
  conjunct-over cs rest =
      ap ends_in_linker (map-append indic_conjunct_break cs (d ∷ rest))
      ∙ linker-over (indic_conjunct_break d) final (map indic_conjunct_break cs) (map indic_conjunct_break rest)

  clusters-later : (c : ℕ) (between before after : List ℕ) → is_grapheme_break true (c ∷ (between ++ d ∷ before)) after ≡ is_grapheme_break true (c ∷ between) after
  unfolding is_grapheme_break
  clusters-later c between before [] = refl
  clusters-later c between before (next ∷ after) =
      let pair = Grapheme.break_by_pair true (grapheme_cluster_break c) (grapheme_cluster_break next) in
      let zwj = is_zwj (grapheme_cluster_break c) in
      let emoji = is_extended_pictographic next in
      let result = λ (l e f : Bool). unwrap_or pair (not ((l && is_consonant (indic_conjunct_break next)) || (zwj && e && emoji) || (f && Grapheme.is_regional (grapheme_cluster_break next)))) in
      ap (λ l. result l (ends_in_pictograph (between ++ d ∷ before)) (ends_in_half_flag ((c ∷ between) ++ d ∷ before))) (conjunct-over (c ∷ between) before)
      ∙ ap₂ (λ e f. result (ends_in_linker (map indic_conjunct_break (c ∷ between))) e f) (pictograph-over between before) (flag-over (c ∷ between) before)

  clusters-same : (before after : List ℕ) → is_grapheme_break true (d ∷ before) after ≡ is_grapheme_break true (d ∷ []) after
  unfolding is_grapheme_break
  clusters-same before [] = refl
  clusters-same before (next ∷ after) =
      let pair = Grapheme.break_by_pair true (grapheme_cluster_break d) (grapheme_cluster_break next) in
      let emoji = is_extended_pictographic next in
      let result = λ (l z f : Bool). λ (e : Bool). unwrap_or pair (not ((l && is_consonant (indic_conjunct_break next)) || (z && e && emoji) || (f && Grapheme.is_regional (grapheme_cluster_break next)))) in
      let none : (rest : List ℕ) → result (ends_in_linker (map indic_conjunct_break (d ∷ rest))) (is_zwj (grapheme_cluster_break d)) (ends_in_half_flag (d ∷ rest)) (ends_in_pictograph rest)
      ≡ result (ends_in_linker []) false (ends_in_half_flag []) (ends_in_pictograph rest) = λ rest.
      ap (λ l. result l (is_zwj (grapheme_cluster_break d)) (ends_in_half_flag (d ∷ rest)) (ends_in_pictograph rest)) (conjunct-over [] rest)
      ∙ ap₂ (λ z f. result (ends_in_linker []) z f (ends_in_pictograph rest)) (closed_zwj (grapheme_cluster_break d) closed) (flag-over [] rest) in
      none before ∙ sym (none [])

  clusters-earlier : (c : ℕ) (before between after : List ℕ) → is_grapheme_break true (c ∷ before) ((between ++ d ∷ []) ++ after) ≡ is_grapheme_break true (c ∷ before) (between ++ d ∷ [])
  unfolding is_grapheme_break
  clusters-earlier c before [] after = refl
  clusters-earlier c before (next ∷ between) after = refl

  clusters-last : is_grapheme_break true (d ∷ []) [] ≡ true
  unfolding is_grapheme_break
  clusters-last = refl

  clusters-apart : (c : ℕ) (after : List ℕ) → begins_cluster (grapheme_cluster_break c) ≡ true → is_grapheme_break true (d ∷ []) (c ∷ after) ≡ true
  unfolding is_grapheme_break
  clusters-apart c after begins =
      let pair = Grapheme.break_by_pair true (grapheme_cluster_break d) (grapheme_cluster_break c) in
      let emoji = is_extended_pictographic c in
      let result = λ (l z f : Bool). λ (e : Bool). unwrap_or pair (not ((l && is_consonant (indic_conjunct_break c)) || (z && e && emoji) || (f && Grapheme.is_regional (grapheme_cluster_break c)))) in
      ap (λ l. result l (is_zwj (grapheme_cluster_break d)) (ends_in_half_flag (d ∷ [])) (ends_in_pictograph [])) (conjunct-over [] [] ∙ no_linker)
      ∙ ap₂ (λ z f. result false z f (ends_in_pictograph [])) (closed_zwj (grapheme_cluster_break d) closed) (flag-over [] [] ∙ no_half_flag)
      ∙ clusters_break (grapheme_cluster_break d) (grapheme_cluster_break c) closed begins

  closes : IsCloser (is_grapheme_break true) d
  closes = record { last = clusters-last; same = clusters-same; later = clusters-later; earlier = clusters-earlier }

-- ---- pairs of characters

-- a text can be parted between the two characters by a rule
pub record IsPair (rule : Rule) (d c : ℕ) : Type 0 where
  pub closes : IsCloser rule d
  pub breaks : (after : List ℕ) → rule (d ∷ []) (c ∷ after) ≡ true

pub parts_units : (d c : ℕ) → parts_words d c ≡ true → IsPair is_word_break d c
parts_units d c h =
    let both = and_parts (is_loose (word_break d)) (begins_word (word_break c)) h in
    record { closes = closes_units d both.0; breaks = λ after. words-apart d both.0 c after both.1 }

pub parts_graphemes : (d c : ℕ) → parts_clusters d c ≡ true → IsPair (is_grapheme_break true) d c
parts_graphemes d c h =
    let both = and_parts (ends_clusters d) (begins_cluster (grapheme_cluster_break c)) h in
    let all = and_parts (is_closed (grapheme_cluster_break d) && joins_no_conjunct (indic_conjunct_break d)) (not (is_extended_pictographic d)) both.0 in
    let some = and_parts (is_closed (grapheme_cluster_break d)) (joins_no_conjunct (indic_conjunct_break d)) all.0 in
    let no_emoji = not-true (is_extended_pictographic d) all.1 in
    record { closes = closes d some.0 some.1 no_emoji; breaks = λ after. clusters-apart d some.0 some.1 no_emoji c after both.1 }
