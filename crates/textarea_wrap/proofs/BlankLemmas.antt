-- A whitespace unit by itself is one grapheme cluster: each boundary depends on two characters.
use Rattle.textarea_wrap.proofs.Prelude.{common_steps, false≢true, and_parts, or_cases, cases_order, cond_both, chars-encodes}
use Rattle.std.proofs.Common.{◌≡◌, ℕ, zero, suc, ◌+◌, ◌<◌, ◌≤◌, Bool, true, false, cond, not, ◌&&◌, ◌||◌, ◌==◌, nat_lt, unwrap_or, List, [], ◌∷◌, ◌++◌, map, length, refl, sym, ap, ap₂, subst, ◌∙◌, ⊎_elim, arith}
use Rattle.textarea_wrap.specs.Prelude.{flat_map, list_all, AllByRecursion, is_whitespace, chars, is_blank, units_of_segment, line_units, Stretch}
use Rattle.std.specs.Prelude.{encode_utf8_all}
use borrow.Author.Tests.{ltb-true, eqb-true}
use lib.Utf8.{scalar, scalars}
use Rattle.unicode_segmentation.specs.GraphemeClusterBreak.{grapheme_cluster_break}
use Rattle.unicode_segmentation.specs.IndicConjunctBreak.{indic_conjunct_break}
use Rattle.unicode_segmentation.specs.Grapheme.{graphemes, is_grapheme_break, break_by_pair, is_zwj, is_regional, is_consonant}
use Rattle.unicode_segmentation.specs.Segments.{prepend, cut, segments}
use Rattle.unicode_segmentation.specs.Word.{word_bounds}
use Rattle.unicode_segmentation.proofs.Computing.{unicode_segmentation}
use Rattle.textarea_util.proofs.Alls.{all_append}
use Rattle.textarea_wrap.proofs.FewestWordLemmas.{AreBlanksClusters, BlankIsCluster}

-- no rule that reads further back joins the character to another
pub record IsPlain (c : ℕ) : Type 0 where
  pub is_scalar : scalar c ≡ true
  pub no_joiner : is_zwj (grapheme_cluster_break c) ≡ false
  pub no_flag : is_regional (grapheme_cluster_break c) ≡ false
  pub no_consonant : is_consonant (indic_conjunct_break c) ≡ false

-- the `n` characters from `low` on
abbrev AreAllPlain : ℕ → ℕ → Type 0
AreAllPlain low zero = Unit {0}
AreAllPlain low (suc n) = IsPlain low × AreAllPlain (low + 1) n

IsPlain-between : (n low c : ℕ) → AreAllPlain low n → low ≤ c → c < low + n → IsPlain c
IsPlain-between zero low c all above below = absurd (omega arith)
IsPlain-between (suc n) low c all above below =
    ⊎_elim (λ same. subst IsPlain same all.0)
    (λ apart. ⊎_elim (λ over. IsPlain-between n (low + 1) c all.1 (omega arith) (omega arith)) (λ under. absurd (omega arith)) apart) (cases_order low c)

plain : (c : ℕ) → scalar c ≡ true → is_zwj (grapheme_cluster_break c) ≡ false → is_regional (grapheme_cluster_break c) ≡ false
    → is_consonant (indic_conjunct_break c) ≡ false → IsPlain c
plain c s z f k = record { is_scalar = s; no_joiner = z; no_flag = f; no_consonant = k }

controls : AreAllPlain 9 5
unfolding unicode_segmentation
controls = (plain 9 refl refl refl refl, (plain 10 refl refl refl refl, (plain 11 refl refl refl refl, (plain 12 refl refl refl refl, (plain 13 refl refl refl refl, tt)))))

plain_32 : IsPlain 32
unfolding unicode_segmentation
plain_32 = plain 32 refl refl refl refl

line_ends : IsPlain 133 × IsPlain 160 × IsPlain 5760
unfolding unicode_segmentation
line_ends = (plain 133 refl refl refl refl, plain 160 refl refl refl refl, plain 5760 refl refl refl refl)

wide_spaces : AreAllPlain 8192 11
unfolding unicode_segmentation
wide_spaces =
    let last : AreAllPlain 8198 5 = (plain 8198 refl refl refl refl, (plain 8199 refl refl refl refl, (plain 8200 refl refl refl refl, (plain 8201 refl refl refl refl, (plain 8202 refl refl refl refl, tt))))) in
    (plain 8192 refl refl refl refl, (plain 8193 refl refl refl refl, (plain 8194 refl refl refl refl, (plain 8195 refl refl refl refl, (plain 8196 refl refl refl refl, (plain 8197 refl refl refl refl, last))))))

others : IsPlain 8232 × IsPlain 8233 × IsPlain 8239 × IsPlain 8287 × IsPlain 12288
unfolding unicode_segmentation
others = (plain 8232 refl refl refl refl, plain 8233 refl refl refl refl, plain 8239 refl refl refl refl, plain 8287 refl refl refl refl, plain 12288 refl refl refl refl)

or_last : (c n : ℕ) (x : Bool) → IsPlain n → (x ≡ true → IsPlain c) → (x || (c == n)) ≡ true → IsPlain c
or_last c n x p k h = ⊎_elim k (λ e. subst IsPlain (sym (eqb-true c n e)) p) (or_cases x (c == n) h)

between : (c low n : ℕ) → AreAllPlain (low + 1) n → (nat_lt low c && nat_lt c (low + 1 + n)) ≡ true → IsPlain c
between c low n all h =
    let components = and_parts (nat_lt low c) (nat_lt c (low + 1 + n)) h in
    let above : low < c = ltb-true low c components.0 in
    let below : c < low + 1 + n = ltb-true c (low + 1 + n) components.1 in
    IsPlain-between n (low + 1) c all (omega arith) below

IsPlain-whitespace : (c : ℕ) → is_whitespace c ≡ true → IsPlain c
IsPlain-whitespace c =
    or_last c 12288 _ others.4 (or_last c 8287 _ others.3 (or_last c 8239 _ others.2 (or_last c 8233 _ others.1 (or_last c 8232 _ others.0
    (λ h. ⊎_elim
    (or_last c 5760 _ line_ends.2 (or_last c 160 _ line_ends.1 (or_last c 133 _ line_ends.0 (or_last c 32 _ plain_32 (between c 8 5 controls)))))
    (between c 8191 11 wide_spaces)
    (or_cases ((((nat_lt 8 c && nat_lt c 14) || c == 32) || c == 133) || c == 160 || c == 5760) (nat_lt 8191 c && nat_lt c 8203) h))))))

abbrev ArePlain : List ℕ → Type 0
ArePlain cs = AllByRecursion IsPlain cs

-- ---- boundaries between such characters

pair : ℕ → ℕ → Bool
pair c d = is_grapheme_break true (c ∷ []) (d ∷ [])

inner : (x cns zw y z h rg : Bool) → cns ≡ false → zw ≡ false → rg ≡ false → not ((true && (x && cns)) || ((zw && y) && z) || (h && rg)) ≡ true
inner x true zw y z h rg k _ _ = absurd (false≢true (sym k))
inner x false true y z h rg _ k _ = absurd (false≢true (sym k))
inner x false false y z h true _ _ k = absurd (false≢true (sym k))
inner true false false y z true false _ _ _ = refl
inner true false false y z false false _ _ _ = refl
inner false false false y z true false _ _ _ = refl
inner false false false y z false false _ _ _ = refl

break_only : (c d : ℕ) (before after : List ℕ) → IsPlain c → IsPlain d
    → is_grapheme_break true (c ∷ before) (d ∷ after) ≡ unwrap_or (break_by_pair true (grapheme_cluster_break c) (grapheme_cluster_break d)) true
unfolding is_grapheme_break
break_only c d before after p q =
    ap (unwrap_or (break_by_pair true (grapheme_cluster_break c) (grapheme_cluster_break d))) (inner _ _ _ _ _ _ _ q.no_consonant p.no_joiner q.no_flag)

pair_same : (c d : ℕ) (before after : List ℕ) → IsPlain c → IsPlain d → is_grapheme_break true (c ∷ before) (d ∷ after) ≡ pair c d
unfolding pair
pair_same c d before after p q = break_only c d before after p q ∙ sym (break_only c d [] [] p q)

-- no boundary is inside
abbrev NoBreak : List ℕ → Type 0
NoBreak [] = Unit {0}
NoBreak (c ∷ []) = Unit {0}
NoBreak (c ∷ (d ∷ cs)) = (pair c d ≡ false) × NoBreak (d ∷ cs)

-- the characters are one cluster
record IsOneCluster (cs : List ℕ) : Type 0 where
  some : 0 < length cs
  plain_chars : ArePlain cs
  whole : NoBreak cs

one_cluster : (before : List ℕ) (c : ℕ) (cs : List ℕ) → ArePlain (c ∷ cs) → NoBreak (c ∷ cs) → cut (is_grapheme_break true) before (c ∷ cs) [] ≡ (c ∷ cs) ∷ []
unfolding cut
one_cluster before c [] p n =
    cond_both (is_grapheme_break true (c ∷ before) []) ((c ∷ []) ∷ []) (prepend (c ∷ []) []) (λ t. t ≡ (c ∷ []) ∷ []) (λ _. refl) (λ _. refl)
one_cluster before c (d ∷ cs) p n =
    ap₂ (λ b t. cond b ((c ∷ []) ∷ t) (prepend (c ∷ []) t)) (pair_same c d before (cs ++ []) p.0 p.1.0 ∙ n.0) (one_cluster (c ∷ before) d cs p.1 n.1)

-- joins a character with segments, as a segment of its own or in front of the first one
join : (b : Bool) (c d : ℕ) (seg : List ℕ) (segs : List (List ℕ)) → pair c d ≡ b → IsPlain c → AllByRecursion IsOneCluster ((d ∷ seg) ∷ segs)
    → AllByRecursion IsOneCluster (cond b ((c ∷ []) ∷ (d ∷ seg) ∷ segs) ((c ∷ (d ∷ seg)) ∷ segs))
join true c d seg segs e p all = (record { some = omega arith; plain_chars = (p, tt); whole = tt }, all)
join false c d seg segs e p all = (record { some = omega arith; plain_chars = (p, all.0.plain_chars); whole = (e, all.0.whole) }, all.1)

front : (b : Bool) (c : ℕ) (segs : List (List ℕ)) → (seg : List ℕ) × (rest : List (List ℕ)) × (cond b ((c ∷ []) ∷ segs) (prepend (c ∷ []) segs) ≡ (c ∷ seg) ∷ rest)
front true c segs = ([], segs, refl)
front false c [] = ([], [], refl)
front false c (seg ∷ segs) = (seg, segs, refl)

-- the first segment begins with the first character
head_cluster : (before : List ℕ) (c : ℕ) (cs : List ℕ) → (seg : List ℕ) × (segs : List (List ℕ)) × (cut (is_grapheme_break true) before (c ∷ cs) [] ≡ (c ∷ seg) ∷ segs)
unfolding cut
head_cluster before c cs = front (is_grapheme_break true (c ∷ before) (cs ++ [])) c (cut (is_grapheme_break true) (c ∷ before) cs [])

plain_clusters : (before cs : List ℕ) → ArePlain cs → AllByRecursion IsOneCluster (cut (is_grapheme_break true) before cs [])
unfolding cut
plain_clusters before [] p = tt
plain_clusters before (c ∷ []) p =
    let one : AllByRecursion IsOneCluster ((c ∷ []) ∷ []) = (record { some = omega arith; plain_chars = (p.0, tt); whole = tt }, tt) in
    cond_both (is_grapheme_break true (c ∷ before) []) ((c ∷ []) ∷ []) (prepend (c ∷ []) []) (AllByRecursion IsOneCluster) (λ _. one) (λ _. one)
plain_clusters before (c ∷ (d ∷ cs)) p =
    grind (arith, common_steps, head_cluster (c ∷ before) d cs, plain_clusters (c ∷ before) (d ∷ cs) p.1, join, pair_same c d before (cs ++ []) p.0 p.1.0)

-- ---- texts of such characters

scalars-ArePlain : (cs : List ℕ) → ArePlain cs → scalars cs ≡ true
scalars-ArePlain [] p = refl
scalars-ArePlain (c ∷ cs) p = ap₂ ◌&&◌ p.0.is_scalar (scalars-ArePlain cs p.1)

-- such a text by itself is one cluster
length-graphemes-one : (cs : List ℕ) → IsOneCluster cs → length (graphemes true (encode_utf8_all cs)) ≡ 1
unfolding segments
length-graphemes-one [] one = let some = one.some in absurd (omega arith)
length-graphemes-one (c ∷ cs) one =
    grind (arith, common_steps, chars-encodes (c ∷ cs) (scalars-ArePlain (c ∷ cs) one.plain_chars), scalars-ArePlain (c ∷ cs) one.plain_chars, one_cluster [] c cs one.plain_chars one.whole)

blanks_from_clusters : (segs : List (List ℕ)) → AllByRecursion IsOneCluster segs → AreBlanksClusters (map encode_utf8_all segs)
blanks_from_clusters [] all = tt
blanks_from_clusters (seg ∷ segs) all = ((λ _. length-graphemes-one seg all.0), blanks_from_clusters segs all.1)

ArePlain-blank : (cs : List ℕ) → list_all is_whitespace cs ≡ true → ArePlain cs
ArePlain-blank [] h = tt
ArePlain-blank (c ∷ cs) h = let components = and_parts (is_whitespace c) (list_all is_whitespace cs) h in (IsPlain-whitespace c components.0, ArePlain-blank cs components.1)

blanks_of_segment : (segment : List ℕ) → AreBlanksClusters (units_of_segment segment)
unfolding segments
blanks_of_segment segment = cond_both (is_blank segment) (graphemes true segment) (segment ∷ []) AreBlanksClusters
    (λ blank. blanks_from_clusters _ (plain_clusters [] (chars segment) (ArePlain-blank (chars segment) blank)))
    (λ content. ((λ blank. absurd (false≢true (sym content ∙ blank))), tt))

blanks_of_segments : (word_segments : Stretch) → AreBlanksClusters (flat_map units_of_segment word_segments)
blanks_of_segments [] = tt
blanks_of_segments (segment ∷ word_segments) = all_append BlankIsCluster (units_of_segment segment) (flat_map units_of_segment word_segments) (blanks_of_segment segment) (blanks_of_segments word_segments)

pub AreBlanksClusters-line_units : (line : List ℕ) → AreBlanksClusters (line_units line)
AreBlanksClusters-line_units line = blanks_of_segments (word_bounds line)
