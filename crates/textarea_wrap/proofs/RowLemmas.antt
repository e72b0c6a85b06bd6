-- The visual rows of a line make it up, begin and end between characters, and are not empty.
use Rattle.std.proofs.Common.{◌≡◌, ℕ, ◌+◌, ◌<◌, true, List, [], ◌∷◌, ◌++◌, map, length, refl, sym, ap, ap₂, subst, ◌∙◌, append_assoc, append-nil, length-append, arith}
use Rattle.textarea_wrap.proofs.Prelude.{IsUtf8-nil, IsUtf8-append, IsUtf8-between, IsCharBoundary-at_seam, IsCharBoundary-end, cond_both, concat-append, All-head, All-rest}
use Rattle.textarea_wrap.specs.Prelude.{concat, flat_map, All, AllByRecursion, IsUtf8, IsCharBoundary, is_blank, units_of_segment, line_units, Stretch, UnitBlock, shared, split, stretches_of}
use Rattle.textarea_wrap.specs.Prelude.{units_of, rows_of, ranges_from, AreGlyphRows, IsGlyphWrapping, IsBlock, AreBlocks, IsWordWrapping, WrapMode, IsWrapping, IsRowRange, IsWrapped}
use Rattle.unicode_segmentation.specs.Grapheme.{graphemes, is_grapheme_break}
use Rattle.unicode_segmentation.specs.Segments.{Rule, segments, with_offsets}
use Rattle.unicode_segmentation.specs.Word.{word_bounds, is_word_break}
use Rattle.unicode_segmentation.proofs.SegmentsLemmas.{AllPieces, IsPieceOf, All-IsPieceOf, segments_nonempty, concat-segments}
use Rattle.textarea_wrap.specs.declared.wrap.WrapMode.TheVariants as mode
use Rattle.textarea_util.proofs.Alls.{all_append, all_split}
use Rattle.textarea_wrap.proofs.GlyphLemmas.{concat-stretches_of}

-- a text that is not empty
pub record IsSegment (segment : List ℕ) : Type 0 where
  pub some : 0 < length segment
  pub utf8 : IsUtf8 segment

abbrev pub AreSegments : Stretch → Type 0
AreSegments = AllByRecursion IsSegment

pub IsUtf8-concat : (xs : Stretch) → AreSegments xs → IsUtf8 (concat xs)
IsUtf8-concat [] p = IsUtf8-nil
IsUtf8-concat (x ∷ xs) p = IsUtf8-append x (concat xs) p.0.utf8 (IsUtf8-concat xs p.1)

pub AreNonempty-word_segments : (xs : Stretch) → AreSegments xs → AllByRecursion (λ x. 0 < length x) xs
AreNonempty-word_segments [] p = tt
AreNonempty-word_segments (x ∷ xs) p = (p.0.some, AreNonempty-word_segments xs p.1)

IsSegment-concat : (stretch : Stretch) → 0 < length stretch → AreSegments stretch → IsSegment (concat stretch)
IsSegment-concat [] h p = absurd (omega arith)
IsSegment-concat (segment ∷ stretch) h p =
    let some = p.0.some in
    record { some = omega (arith, length-append segment (concat stretch)); utf8 = IsUtf8-concat (segment ∷ stretch) p }

-- ---- segments

AreSegments-offsets : (s : List ℕ) (u : IsUtf8 s) (at : ℕ) (xs : Stretch) → AllPieces (λ x. 0 < length x) xs → All (IsPieceOf s) (with_offsets at xs) → AreSegments xs
unfolding with_offsets
AreSegments-offsets s u at [] some all = tt
AreSegments-offsets s u at (x ∷ xs) some all =
    let here = All-head (IsPieceOf s) (at, x) (with_offsets (at + length x) xs) all in
    let utf8 = IsUtf8-between s at (at + length x) u (omega arith) here.start here.end in (
      record { some = some.0; utf8 = subst IsUtf8 (sym here.bytes) utf8 },
      AreSegments-offsets s u (at + length x) xs some.1 (All-rest (IsPieceOf s) (at, x) (with_offsets (at + length x) xs) _ refl all),
    )

pub AreSegments-segments : (rule : Rule) (s : List ℕ) → IsUtf8 s → AreSegments (segments rule s)
AreSegments-segments rule s u = AreSegments-offsets s u 0 (segments rule s) (segments_nonempty rule s) (All-IsPieceOf rule s u)

concat-units_of_segment : (segment : List ℕ) → IsUtf8 segment → concat (units_of_segment segment) ≡ segment
concat-units_of_segment segment u = cond_both (is_blank segment) (graphemes true segment) (segment ∷ []) (λ units. concat units ≡ segment)
    (λ _. concat-segments (is_grapheme_break true) segment u) (λ _. append-nil segment)

AreSegments-units_of_segment : (segment : List ℕ) → IsSegment segment → AreSegments (units_of_segment segment)
AreSegments-units_of_segment segment p = cond_both (is_blank segment) (graphemes true segment) (segment ∷ []) AreSegments
    (λ _. AreSegments-segments (is_grapheme_break true) segment p.utf8) (λ _. (p, tt))

concat-units : (word_segments : Stretch) → AreSegments word_segments → concat (flat_map units_of_segment word_segments) ≡ concat word_segments
concat-units [] p = refl
concat-units (segment ∷ word_segments) p =
    concat-append (units_of_segment segment) (flat_map units_of_segment word_segments) ∙ ap₂ ◌++◌ (concat-units_of_segment segment p.0.utf8) (concat-units word_segments p.1)

AreSegments-units : (word_segments : Stretch) → AreSegments word_segments → AreSegments (flat_map units_of_segment word_segments)
AreSegments-units [] p = tt
AreSegments-units (segment ∷ word_segments) p =
    all_append IsSegment (units_of_segment segment) (flat_map units_of_segment word_segments) (AreSegments-units_of_segment segment p.0) (AreSegments-units word_segments p.1)

-- the units make up the line
pub concat-line_units : (line : List ℕ) → IsUtf8 line → concat (line_units line) ≡ line
concat-line_units line u = concat-units (word_bounds line) (AreSegments-segments is_word_break line u) ∙ concat-segments is_word_break line u

pub AreSegments-line_units : (line : List ℕ) → IsUtf8 line → AreSegments (line_units line)
AreSegments-line_units line u = AreSegments-units (word_bounds line) (AreSegments-segments is_word_break line u)

-- ---- rows

AreSegments-stretches : (tab_len width : ℕ) (stretches : List Stretch) (later : Stretch) → AreGlyphRows tab_len width stretches later → AreSegments (stretches_of stretches) → AreSegments (map concat stretches)
AreSegments-stretches tab_len width [] later rows p = tt
AreSegments-stretches tab_len width (stretch ∷ stretches) later rows p =
    let components = all_split IsSegment stretch (stretches_of stretches) p in
    (IsSegment-concat stretch rows.0.nonempty components.0, AreSegments-stretches tab_len width stretches later rows.1 components.1)

pub AreSegments-glyphs : (tab_len width : ℕ) (text : List ℕ) (rows : Stretch) → IsUtf8 text → IsGlyphWrapping tab_len width text rows → AreSegments rows
AreSegments-glyphs tab_len width text rows u wrapping =
    rw wrapping.rows_are (AreSegments-stretches tab_len width wrapping.stretches [] wrapping.wrapped (rw wrapping.whole (AreSegments-segments (is_grapheme_break true) text u)))

pub concat-glyphs : (tab_len width : ℕ) (text : List ℕ) (rows : Stretch) → IsUtf8 text → IsGlyphWrapping tab_len width text rows → concat rows ≡ text
concat-glyphs tab_len width text rows u wrapping =
    ap concat wrapping.rows_are ∙ concat-stretches_of wrapping.stretches ∙ ap concat wrapping.whole ∙ concat-segments (is_grapheme_break true) text u

-- the rows of a block are not empty, and make up its units
pub AreSegments-block : (tab_len width : ℕ) (block : UnitBlock) (later : Stretch) → IsBlock tab_len width block later → AreSegments (units_of block)
    → AreSegments (rows_of block) × (concat (rows_of block) ≡ concat (units_of block))
AreSegments-block tab_len width (shared stretch) later is p =
    let nonempty : 0 < length stretch = omega (arith, ap length is.0.stretch_is, length-append is.0.front (is.0.last ∷ [])) in
    ((IsSegment-concat stretch nonempty p, tt), append-nil (concat stretch))
AreSegments-block tab_len width (split unit rows) later is p =
    (AreSegments-glyphs tab_len width unit rows p.0.utf8 is.1, concat-glyphs tab_len width unit rows p.0.utf8 is.1 ∙ sym (append-nil unit))

pub AreSegments-blocks : (tab_len width : ℕ) (blocks : List UnitBlock) (later : Stretch) → AreBlocks tab_len width blocks later → AreSegments (flat_map units_of blocks)
    → AreSegments (flat_map rows_of blocks) × (concat (flat_map rows_of blocks) ≡ concat (flat_map units_of blocks))
AreSegments-blocks tab_len width [] later are p = (tt, refl)
AreSegments-blocks tab_len width (block ∷ blocks) later are p =
    let components = all_split IsSegment (units_of block) (flat_map units_of blocks) p in
    let here = AreSegments-block tab_len width block (flat_map units_of blocks ++ later) are.0 components.0 in
    let rest = AreSegments-blocks tab_len width blocks later are.1 components.1 in (
      all_append IsSegment (rows_of block) (flat_map rows_of blocks) here.0 rest.0,
      concat-append (rows_of block) (flat_map rows_of blocks) ∙ ap₂ ◌++◌ here.1 rest.1 ∙ sym (concat-append (units_of block) (flat_map units_of blocks)),
    )

-- rows that are not empty and make up the line begin and end between its characters
AreRowRanges-from : (line front : List ℕ) (texts : Stretch) → line ≡ front ++ concat texts → AreSegments texts → AllByRecursion (IsRowRange line) (ranges_from (length front) texts)
AreRowRanges-from line front [] e p = tt
AreRowRanges-from line front (text ∷ texts) e p =
    let past = e ∙ sym (append_assoc front text (concat texts)) in
    let wide = length-append front text in
    let some = p.0.some in (
      record {
        ordered = omega arith;
        start = IsCharBoundary-at_seam line front (concat (text ∷ texts)) e (IsUtf8-concat (text ∷ texts) p);
        end = subst (IsCharBoundary line) wide (IsCharBoundary-at_seam line (front ++ text) (concat texts) past (IsUtf8-concat texts p.1));
        nonempty = λ same. absurd (omega arith);
      },
      subst (λ n. AllByRecursion (IsRowRange line) (ranges_from n texts)) wide (AreRowRanges-from line (front ++ text) texts past p.1),
    )

-- a line that is not empty, split into texts that are not empty
IsWrapped-texts : (mode : WrapMode) (tab_len width : ℕ) (line : List ℕ) (ranges : List (ℕ × ℕ)) (texts : Stretch) → 0 < length line → IsWrapping mode tab_len width line texts
    → concat texts ≡ line → ranges ≡ ranges_from 0 texts → AreSegments texts → IsWrapped mode tab_len width line ranges
IsWrapped-texts mode tab_len width [] ranges texts some wrapped joined ranges_are p = absurd (omega arith)
IsWrapped-texts mode tab_len width (byte ∷ line) ranges texts some wrapped joined ranges_are p = record {
  texts = texts;
  wrapped = wrapped;
  joined = joined;
  ranges_are = ranges_are;
  placed = subst (AllByRecursion (IsRowRange (byte ∷ line))) (sym ranges_are) (AreRowRanges-from (byte ∷ line) [] texts (sym joined) p);
}

pub IsWrapped-empty : (mode : WrapMode) (tab_len width : ℕ) (line : List ℕ) (ranges : List (ℕ × ℕ)) → length line ≡ 0 → ranges ≡ (0, 0) ∷ [] → IsWrapped mode tab_len width line ranges
IsWrapped-empty mode tab_len width [] ranges none ranges_are = record {
  texts = [] ∷ [];
  wrapped = refl;
  joined = refl;
  ranges_are = ranges_are;
  placed = subst (AllByRecursion (IsRowRange [])) (sym ranges_are) (record { ordered = omega arith; start = IsCharBoundary-end []; end = IsCharBoundary-end []; nonempty = λ _. refl }, tt);
}
IsWrapped-empty mode tab_len width (byte ∷ line) ranges none ranges_are = absurd (omega arith)

module _ (tab_len width : ℕ) (line : List ℕ) (ranges : List (ℕ × ℕ)) (u : IsUtf8 line) (some : 0 < length line) where
  pub IsWrapped-whole : ranges ≡ (0, length line) ∷ [] → IsWrapped mode.None tab_len width line ranges
  IsWrapped-whole ranges_are =
      IsWrapped-texts mode.None tab_len width line ranges (line ∷ []) some refl (append-nil line) (ranges_are ∙ ap (λ n. (0, n) ∷ []) (omega arith)) (record { some = some; utf8 = u }, tt)

  pub IsWrapped-glyphs : (texts : Stretch) → IsGlyphWrapping tab_len width line texts → ranges ≡ ranges_from 0 texts → IsWrapped mode.Glyph tab_len width line ranges
  IsWrapped-glyphs texts wrapping ranges_are =
      IsWrapped-texts mode.Glyph tab_len width line ranges texts some wrapping (concat-glyphs tab_len width line texts u wrapping) ranges_are (AreSegments-glyphs tab_len width line texts u wrapping)

  module _ (blocks : List UnitBlock) (whole : flat_map units_of blocks ≡ line_units line) (wrapped : AreBlocks tab_len width blocks [])
      (ranges_are : ranges ≡ ranges_from 0 (flat_map rows_of blocks)) where
    words_wrap : IsWordWrapping tab_len width line (flat_map rows_of blocks)
    words_wrap = record { blocks = blocks; whole = whole; wrapped = wrapped; rows_are = refl }

    rows_made : AreSegments (flat_map rows_of blocks) × (concat (flat_map rows_of blocks) ≡ concat (flat_map units_of blocks))
    rows_made = AreSegments-blocks tab_len width blocks [] wrapped (subst AreSegments (sym whole) (AreSegments-line_units line u))

    joined : concat (flat_map rows_of blocks) ≡ line
    joined = rows_made.1 ∙ ap concat whole ∙ concat-line_units line u

    pub IsWrapped-units : (kind : WrapMode) → (kind ≡ mode.None → ⊥) → (kind ≡ mode.Glyph → ⊥) → IsWrapped kind tab_len width line ranges
    IsWrapped-units mode.None not_none not_glyph = absurd (not_none refl)
    IsWrapped-units mode.Word not_none not_glyph = IsWrapped-texts mode.Word tab_len width line ranges (flat_map rows_of blocks) some words_wrap joined ranges_are rows_made.0
    IsWrapped-units mode.Glyph not_none not_glyph = absurd (not_glyph refl)
    IsWrapped-units mode.WordOrGlyph not_none not_glyph = IsWrapped-texts mode.WordOrGlyph tab_len width line ranges (flat_map rows_of blocks) some words_wrap joined ranges_are rows_made.0
