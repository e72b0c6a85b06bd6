-- If the grapheme clusters of a line fit the width, no cursor is in a column past it.
use Rattle.textarea_wrap.proofs.Prelude.{common_steps, nat_tests, flat_map-append, chars-nil, take_at, take-append-drop}
use Rattle.std.proofs.Common.{◌≡◌, ◌≢◌, ℕ, zero, suc, ◌+◌, ◌-◌, ◌*◌, ◌^◌, ◌<◌, ◌≤◌, true, false, cond, nat_eq, List, [], ◌∷◌, ◌++◌, map, length}
use Rattle.std.proofs.Common.{take, drop, get_or, refl, sym, ap, subst, ◌∙◌, ⊎_elim, append-nil, length-append, le_trans, arith}
use Rattle.textarea_wrap.specs.Prelude.{concat, flat_map, AllByRecursion, IsUtf8, chars, plain_width, column_after, end_column, stretch_width, Stretch, UnitBlock, shared}
use Rattle.textarea_wrap.specs.Prelude.{split, stretches_of, units_of, rows_of, begins_with_content, AreGlyphRows, IsGlyphWrapping, HangsOver, IsBlock, AreBlocks}
use Rattle.textarea_wrap.specs.Prelude.{IsWordWrapping, full_width, IsFittingCluster, AreFittingClusters, HasFittingClusters, is_blank, AreRowTexts, IsWrapping, WrapMode}
use Rattle.unicode_segmentation.specs.Grapheme.{graphemes, is_grapheme_break}
use Rattle.unicode_segmentation.proofs.SegmentsLemmas.{concat-segments}
use Rattle.unicode_width.proofs.Rules.{width_or_zero-le}
use Rattle.textarea_wrap.specs.declared.wrap.WrapMode.TheVariants as mode
use Rattle.textarea_util.proofs.Alls.{all_split}
use Rattle.textarea_wrap.proofs.BlankLemmas.{AreBlanksClusters-line_units}
use Rattle.textarea_wrap.proofs.ColumnLemmas.{end_column-append, end_column-after, stretch_width-one, stretch_width-push}
use Rattle.textarea_wrap.proofs.FewestWordLemmas.{BlankIsCluster}
use Rattle.textarea_wrap.proofs.OneRowLemmas.{chars-word_segments, stretch_width-whole}
use Rattle.textarea_wrap.proofs.RowLemmas.{IsSegment, AreSegments, AreSegments-line_units, AreSegments-segments, concat-glyphs}

-- ---- characters

column_within : (t x c : ℕ) → column_after t x c ≤ x + cond (nat_eq c 9) t (plain_width c)
column_within t x c = grind (arith, common_steps, nat_tests)

-- characters take no more columns than with each tab at its full length
pub end_column-full : (t x : ℕ) (cs : List ℕ) → end_column t x cs ≤ x + full_width t cs
end_column-full t x [] = omega arith
end_column-full t x (c ∷ cs) = omega (arith, end_column-full t (column_after t x c) cs, column_within t x c)

-- ---- the rows of a line, each given by its bytes

-- the column after a text at the start of a row
abbrev end_of : ℕ → List ℕ → ℕ
end_of t text = end_column t 0 (chars text)

-- the column at which its last character begins
abbrev last_of : ℕ → List ℕ → ℕ
last_of t text = end_column t 0 (take (length (chars text) - 1) (chars text))

-- the last row is within the width, and each other row is up to its last character
abbrev pub AreWithin : ℕ → ℕ → List (List ℕ) → Type 0
AreWithin t w [] = Unit {0}
AreWithin t w (text ∷ []) = end_column t 0 (chars text) ≤ w
AreWithin t w (text ∷ next ∷ texts) = (end_column t 0 (take (length (chars text) - 1) (chars text)) ≤ w) × AreWithin t w (next ∷ texts)

last_before : (t n : ℕ) (cs : List ℕ) → end_column t 0 (take n cs) ≤ end_column t 0 cs
last_before t n cs =
    omega (arith, end_column-after t (end_column t 0 (take n cs)) (drop n cs), end_column-append t 0 (take n cs) (drop n cs), ap (end_column t 0) (take-append-drop n cs))

within_before : (t w : ℕ) (text : List ℕ) (later : List (List ℕ)) → end_of t text ≤ w → AreWithin t w later → AreWithin t w (text ∷ later)
within_before t w text [] fits rest = fits
within_before t w text (next ∷ later) fits rest = (le_trans (last_before t (length (chars text) - 1) (chars text)) fits, rest)

over_before : (t w : ℕ) (text : List ℕ) (later : List (List ℕ)) → 0 < length later → last_of t text ≤ w → AreWithin t w later → AreWithin t w (text ∷ later)
over_before t w text [] some fits rest = absurd (omega arith)
over_before t w text (next ∷ later) some fits rest = (fits, rest)

all_before : (t w : ℕ) (texts later : List (List ℕ)) → AllByRecursion (λ text. end_of t text ≤ w) texts → AreWithin t w later → AreWithin t w (texts ++ later)
all_before t w [] later all rest = rest
all_before t w (text ∷ texts) later all rest = within_before t w text (texts ++ later) all.0 (all_before t w texts later all.1 rest)

-- ---- rows of clusters

fits_anyhow : (t w : ℕ) (cluster : List ℕ) → IsFittingCluster t w cluster → stretch_width t (cluster ∷ []) ≤ w
fits_anyhow t w cluster h = omega (arith, stretch_width-one t cluster, end_column-full t 0 (chars cluster), h.fits)

one_fits : (t w : ℕ) (stretch : Stretch) → length stretch ≡ 1 → AllByRecursion (IsFittingCluster t w) stretch → stretch_width t stretch ≤ w
one_fits t w [] e all = absurd (omega (arith, e))
one_fits t w (cluster ∷ []) e all = fits_anyhow t w cluster all.0
one_fits t w (cluster ∷ next ∷ rest) e all = absurd (omega (arith, e))

glyph_rows_within : (t w : ℕ) (stretches : List Stretch) (later : Stretch) → AreGlyphRows t w stretches later → AllByRecursion (IsFittingCluster t w) (stretches_of stretches) →
    AreSegments (stretches_of stretches) → AllByRecursion (λ text. end_of t text ≤ w) (map concat stretches)
glyph_rows_within t w [] later wrapped all p = tt
glyph_rows_within t w (stretch ∷ stretches) later wrapped all p =
    let clusters = all_split (IsFittingCluster t w) stretch (stretches_of stretches) all in
    let word_segments = all_split IsSegment stretch (stretches_of stretches) p in
    let fits : stretch_width t stretch ≤ w = ⊎_elim (λ h. h) (λ one. one_fits t w stretch one clusters.0) wrapped.0.fits in
    (subst (λ n. n ≤ w) (stretch_width-whole t (concat stretch) stretch word_segments.0 refl) fits, glyph_rows_within t w stretches later wrapped.1 clusters.1 word_segments.1)

glyphs_within : (t w : ℕ) (text : List ℕ) (rows : List (List ℕ)) → IsUtf8 text → AreFittingClusters t w text → IsGlyphWrapping t w text rows → AllByRecursion (λ row. end_of t row ≤ w) rows
glyphs_within t w text rows u all wrapped =
    let segments = AreSegments-segments (is_grapheme_break true) text u in
    let clusters = subst (AllByRecursion (IsFittingCluster t w)) (sym wrapped.whole) all in
    rw wrapped.rows_are (glyph_rows_within t w wrapped.stretches [] wrapped.wrapped clusters (subst AreSegments (sym wrapped.whole) segments))

-- ---- rows of units

some_rows : (t w : ℕ) (blocks : List UnitBlock) (later : Stretch) → AreBlocks t w blocks later → AreSegments (flat_map units_of blocks) → begins_with_content (flat_map units_of blocks ++ []) ≡ true → 0 < length (flat_map rows_of blocks)
some_rows t w [] later wrapped p e = absurd cc
some_rows t w (shared stretch ∷ blocks) later wrapped p e = omega arith
some_rows t w (split unit [] ∷ blocks) later wrapped p e =
    grind (arith, common_steps, concat-glyphs t w unit [] p.0.utf8 wrapped.0.1, stretch_width-one t unit, chars-nil)
some_rows t w (split unit (row ∷ rows) ∷ blocks) later wrapped p e = omega arith

-- a whitespace unit is one cluster, so it is one character where it has a width
lone_cluster : (clusters : List (List ℕ)) (unit : List ℕ) → length clusters ≡ 1 → concat clusters ≡ unit → clusters ≡ unit ∷ []
lone_cluster [] unit one whole = absurd (omega (arith, one))
lone_cluster (cluster ∷ []) unit one whole = ap (λ c. c ∷ []) (sym (append-nil cluster) ∙ whole)
lone_cluster (cluster ∷ next ∷ rest) unit one whole = absurd (omega (arith, one))

blank_unit : (t w : ℕ) (unit : List ℕ) → IsUtf8 unit → BlankIsCluster unit → is_blank unit ≡ true → AreFittingClusters t w unit → IsFittingCluster t w unit
blank_unit t w unit u one blank all =
    (subst (AllByRecursion (IsFittingCluster t w)) (lone_cluster (graphemes true unit) unit (one blank) (concat-segments (is_grapheme_break true) unit u)) all).0

last_split : (P : List ℕ → Type 0) (front : Stretch) (last : List ℕ) → AllByRecursion P (front ++ last ∷ []) → AllByRecursion P front × P last
last_split P front last all = let components = all_split P front (last ∷ []) all in (components.0, components.1.0)

without_last : (t : ℕ) (front : Stretch) (last : List ℕ) → AreSegments (front ++ last ∷ []) → length (chars last) ≡ 1 → last_of t (concat (front ++ last ∷ [])) ≡ stretch_width t front
without_last t front last p one =
    grind (arith, common_steps, chars-word_segments (front ++ last ∷ []) p, flat_map-append chars front (last ∷ []), append-nil (chars last), length-append (flat_map chars front) (chars last), take_at)

hangs_within : (t w : ℕ) (front : Stretch) (last : List ℕ) (later : Stretch) → AreSegments (front ++ last ∷ []) → stretch_width t front ≤ w →
    HangsOver w (stretch_width t (front ++ last ∷ [])) last later → IsFittingCluster t w last → last_of t (concat (front ++ last ∷ [])) ≤ w
hangs_within t w front last later p fits over cluster =
    grind (arith, common_steps, stretch_width-push t front last, end_column-full t (stretch_width t front) (chars last), without_last)

block_within : (t w : ℕ) (block : UnitBlock) (blocks : List UnitBlock) → IsBlock t w block (flat_map units_of blocks ++ []) → AreBlocks t w blocks [] → AreSegments (units_of block) → AreSegments (flat_map units_of blocks)
    → AllByRecursion BlankIsCluster (units_of block) → AllByRecursion (AreFittingClusters t w) (units_of block) → AreWithin t w (flat_map rows_of blocks) → AreWithin t w (rows_of block ++ flat_map rows_of blocks)
block_within t w (split unit rows) blocks is wrapped p later blanks all rest =
    all_before t w rows (flat_map rows_of blocks) (glyphs_within t w unit rows p.0.utf8 all.0 is.1) rest
block_within t w (shared stretch) blocks is wrapped p later blanks all rest =
    let front = is.0.front in
    let last = is.0.last in
    let whole = is.0.stretch_is in
    ⊎_elim
    (λ fits. within_before t w (concat stretch) (flat_map rows_of blocks)
    (subst (λ n. n ≤ w) (stretch_width-whole t (concat stretch) stretch p refl) (subst (λ s. stretch_width t s ≤ w) (sym whole) fits)) rest)
    (λ hangs.
    let word_segments = subst AreSegments whole p in
    let blank = (last_split BlankIsCluster front last (subst (AllByRecursion BlankIsCluster) whole blanks)).1 in
    let clusters = (last_split (AreFittingClusters t w) front last (subst (AllByRecursion (AreFittingClusters t w)) whole all)).1 in
    let utf8 = (last_split IsSegment front last word_segments).1.utf8 in
    over_before t w (concat stretch) (flat_map rows_of blocks) (some_rows t w blocks [] wrapped later hangs.2.2)
    (subst (λ s. last_of t (concat s) ≤ w) (sym whole) (hangs_within t w front last _ word_segments hangs.1 hangs.2 (blank_unit t w last utf8 blank hangs.2.1 clusters))) rest)
    is.0.fits

blocks_within : (t w : ℕ) (blocks : List UnitBlock) → AreBlocks t w blocks [] → AreSegments (flat_map units_of blocks) → AllByRecursion BlankIsCluster (flat_map units_of blocks)
    → AllByRecursion (AreFittingClusters t w) (flat_map units_of blocks) → AreWithin t w (flat_map rows_of blocks)
blocks_within t w [] wrapped p blanks all = tt
blocks_within t w (block ∷ blocks) wrapped p blanks all =
    let word_segments = all_split IsSegment (units_of block) (flat_map units_of blocks) p in
    let blank = all_split BlankIsCluster (units_of block) (flat_map units_of blocks) blanks in
    let clusters = all_split (AreFittingClusters t w) (units_of block) (flat_map units_of blocks) all in
    block_within t w block blocks wrapped.0 wrapped.1 word_segments.0 word_segments.1 blank.0 clusters.0 (blocks_within t w blocks wrapped.1 word_segments.1 blank.1 clusters.1)

words_within : (t w : ℕ) (line : List ℕ) (rows : List (List ℕ)) → IsUtf8 line → HasFittingClusters t w line → IsWordWrapping t w line rows → AreWithin t w rows
words_within t w line rows u all wrapped =
    let segments = subst AreSegments (sym wrapped.whole) (AreSegments-line_units line u) in
    let blanks = subst (AllByRecursion BlankIsCluster) (sym wrapped.whole) (AreBlanksClusters-line_units line) in
    rw wrapped.rows_are (blocks_within t w wrapped.blocks wrapped.wrapped segments blanks (subst (AllByRecursion (AreFittingClusters t w)) (sym wrapped.whole) all.of_units))

-- ---- in each mode that wraps

clusters_within : (t w : ℕ) (line : List ℕ) (rows : List (List ℕ)) → IsUtf8 line → HasFittingClusters t w line → IsGlyphWrapping t w line rows → AreWithin t w rows
clusters_within t w line rows u all wrapped =
    subst (AreWithin t w) (append-nil rows) (all_before t w rows [] (glyphs_within t w line rows u all.of_line wrapped) tt)

wraps_within : (kind : WrapMode) (t w : ℕ) (line : List ℕ) (texts : List (List ℕ)) → kind ≢ mode.None → IsUtf8 line → HasFittingClusters t w line → IsWrapping kind t w line texts → AreWithin t w texts
wraps_within mode.None t w line texts wraps u all wrapped = absurd (wraps refl)
wraps_within mode.Word t w line texts wraps u all wrapped = words_within t w line texts u all wrapped
wraps_within mode.Glyph t w line texts wraps u all wrapped = clusters_within t w line texts u all wrapped
wraps_within mode.WordOrGlyph t w line texts wraps u all wrapped = words_within t w line texts u all wrapped

pub rows_within : (kind : WrapMode) (t w : ℕ) (line : List ℕ) (texts : List (List ℕ)) → kind ≢ mode.None → IsUtf8 line → HasFittingClusters t w line → AreRowTexts kind t w line texts → AreWithin t w texts
rows_within kind t w [] texts wraps u all wrapped =
    subst (AreWithin t w) (sym wrapped) (omega (arith, ap (end_column t 0) chars-nil))
rows_within kind t w (byte ∷ line) texts wraps u all wrapped = wraps_within kind t w (byte ∷ line) texts wraps u all wrapped

-- ---- a row by its number

pub last_within : (t w : ℕ) (texts : List (List ℕ)) (k : ℕ) → AreWithin t w texts → k + 1 ≡ length texts → end_column t 0 (chars (get_or texts k [])) ≤ w
last_within t w [] k h e = absurd (omega (arith, e))
last_within t w (text ∷ []) zero h e = h
last_within t w (text ∷ []) (suc k) h e = absurd (omega (arith, e))
last_within t w (text ∷ next ∷ texts) zero h e = absurd (omega (arith, e))
last_within t w (text ∷ next ∷ texts) (suc k) h e = last_within t w (next ∷ texts) k h.1 (omega (arith, e))

pub row_within : (t w : ℕ) (texts : List (List ℕ)) (k : ℕ) → AreWithin t w texts → k + 1 < length texts → end_column t 0 (take (length (chars (get_or texts k [])) - 1) (chars (get_or texts k []))) ≤ w
row_within t w [] k h more = absurd (omega (arith, more))
row_within t w (text ∷ []) k h more = absurd (omega (arith, more))
row_within t w (text ∷ next ∷ texts) zero h more = h.0
row_within t w (text ∷ next ∷ texts) (suc k) h more = row_within t w (next ∷ texts) k h.1 (omega (arith, more))

-- ---- without wrapping

full_columns : (t c : ℕ) → t < 2 ^ 8 → cond (nat_eq c 9) t (plain_width c) ≤ 255
full_columns t c h = grind (arith, common_steps, width_or_zero-le false c)

full_width-few : (t : ℕ) (cs : List ℕ) → t < 2 ^ 8 → full_width t cs ≤ 255 * length cs
full_width-few t [] h = omega arith
full_width-few t (c ∷ cs) h = omega (arith, full_columns t c h, full_width-few t cs h)

-- a character takes at most 255 columns
pub end_column-few : (t : ℕ) (cs : List ℕ) → t < 2 ^ 8 → end_column t 0 cs ≤ 255 * length cs
end_column-few t cs h = omega (arith, end_column-full t 0 cs, full_width-few t cs h)
