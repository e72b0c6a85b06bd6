-- A text has one greedy wrapping: of two rows that begin together neither ends before the other.
use Rattle.std.proofs.Common.{◌≡◌, ℕ, ◌≤◌, ◌⊎◌, List, [], ◌∷◌, ◌++◌, map, length, refl, sym, ap, ap₂, subst, ◌∙◌, ⊎_elim, append-nil, length-append, arith}
use Rattle.textarea_wrap.specs.Prelude.{concat, flat_map, stretch_width, Stretch, UnitBlock, shared, split, stretches_of, units_of, rows_of, ranges_from, IsGlyphRow, AreGlyphRows}
use Rattle.textarea_wrap.specs.Prelude.{IsGlyphWrapping, AreFittingRows, IsBlock, AreBlocks, IsWordWrapping, IsFittingBlock, WrapMode, AreRowTexts, IsWrapping, IsWrapped}
use Rattle.textarea_wrap.specs.declared.wrap.WrapMode.TheVariants as mode
use Rattle.textarea_wrap.proofs.FewestLemmas.{fronts, not_shorter}
use Rattle.textarea_wrap.proofs.FewestWordLemmas.{block_reaches, block_some, wide_ends}

-- ---- at grapheme cluster ends

row_ends : (t w : ℕ) (stretch left rest row over : Stretch) → IsGlyphRow t w stretch (left ++ []) → row ≡ stretch ++ over → left ≡ over ++ rest → (stretch_width t row ≤ w) ⊎ (length row ≡ 1) → (row ≡ stretch) × (left ≡ rest)
row_ends t w stretch left rest row [] greedy row_is left_is fits = (row_is ∙ append-nil stretch, left_is)
row_ends t w stretch left rest row (next ∷ over) greedy row_is left_is fits =
    absurd (not_shorter t w stretch (left ++ []) [] (over ++ rest) next row greedy (append-nil left ∙ left_is) over row_is fits)

stretches_same : (t w : ℕ) (a b : List Stretch) → AreGlyphRows t w a [] → AreGlyphRows t w b [] → stretches_of a ≡ stretches_of b → a ≡ b
stretches_same t w [] [] h k same = refl
stretches_same t w [] (row ∷ b) h k same = absurd (omega (arith, k.0.nonempty, ap length same, length-append row (stretches_of b)))
stretches_same t w (stretch ∷ a) [] h k same = absurd (omega (arith, h.0.nonempty, ap length same, length-append stretch (stretches_of a)))
stretches_same t w (stretch ∷ a) (row ∷ b) h k same =
    ⊎_elim
    (λ p. let ends = row_ends t w stretch (stretches_of a) (stretches_of b) row p.0 h.0 p.1 p.2 k.0.fits in ap₂ ◌∷◌ (sym ends.0) (stretches_same t w a b h.1 k.1 ends.1))
    (λ p. let ends = row_ends t w row (stretches_of b) (stretches_of a) stretch p.0 k.0 p.1 p.2 h.0.fits in ap₂ ◌∷◌ ends.0 (stretches_same t w a b h.1 k.1 (sym ends.1)))
    (fronts stretch (stretches_of a) row (stretches_of b) same)

glyphs_same : (t w : ℕ) (text : List ℕ) (rows others : List (List ℕ)) → IsGlyphWrapping t w text rows → IsGlyphWrapping t w text others → rows ≡ others
glyphs_same t w text rows others h k =
    h.rows_are ∙ ap (map concat) (stretches_same t w h.stretches k.stretches h.wrapped k.wrapped (h.whole ∙ sym k.whole)) ∙ sym k.rows_are

-- ---- at unit ends

rows_fit : (t w : ℕ) (stretches : List Stretch) (later : Stretch) → AreGlyphRows t w stretches later → AreFittingRows t w stretches
rows_fit t w [] later h = tt
rows_fit t w (stretch ∷ stretches) later h = (h.0.fits, rows_fit t w stretches later h.1)

block_fits : (t w : ℕ) (block : UnitBlock) (later : Stretch) → IsBlock t w block later → IsFittingBlock t w block later
block_fits t w (shared stretch) later h = h.0
block_fits t w (split unit rows) later h = (h.0, (h.1.stretches, h.1.whole, rows_fit t w h.1.stretches [] h.1.wrapped, h.1.rows_are))

block_ends : (t w : ℕ) (block other : UnitBlock) (left rest over : Stretch) → IsBlock t w block (left ++ []) → IsBlock t w other (rest ++ []) →
    units_of other ≡ units_of block ++ over → left ≡ over ++ rest → (units_of other ≡ units_of block) × (left ≡ rest)
block_ends t w block other left rest [] h k other_is left_is = (other_is ∙ append-nil (units_of block), left_is)
block_ends t w block other left rest (next ∷ over) h k other_is left_is =
    absurd (block_reaches t w block other left rest [] next over h (block_fits t w other (rest ++ []) k) other_is left_is)

-- blocks of the same units have the same rows
block_rows : (t w : ℕ) (block other : UnitBlock) (left rest : Stretch) → IsBlock t w block left → IsBlock t w other rest → units_of block ≡ units_of other → rows_of block ≡ rows_of other
block_rows t w (shared stretch) (shared row) left rest h k same = ap (λ r. concat r ∷ []) same
block_rows t w (shared stretch) (split unit rows) left rest h k same =
    absurd (let ends = wide_ends t w stretch left h.0 [] unit [] same k.0 in let none = ends.1 in omega arith)
block_rows t w (split unit rows) (shared row) left rest h k same =
    absurd (let ends = wide_ends t w row rest k.0 [] unit [] (sym same) h.0 in let none = ends.1 in omega arith)
block_rows t w (split unit rows) (split wide others) left rest h k same =
    let one : unit ≡ wide = cc in
    glyphs_same t w wide rows others (subst (λ u. IsGlyphWrapping t w u rows) one h.1) k.1

blocks_same : (t w : ℕ) (a b : List UnitBlock) → AreBlocks t w a [] → AreBlocks t w b [] → flat_map units_of a ≡ flat_map units_of b → flat_map rows_of a ≡ flat_map rows_of b
blocks_same t w [] [] h k same = refl
blocks_same t w [] (other ∷ b) h k same =
    absurd (omega (arith, block_some t w other (flat_map units_of b ++ []) k.0, ap length same, length-append (units_of other) (flat_map units_of b)))
blocks_same t w (block ∷ a) [] h k same =
    absurd (omega (arith, block_some t w block (flat_map units_of a ++ []) h.0, ap length same, length-append (units_of block) (flat_map units_of a)))
blocks_same t w (block ∷ a) (other ∷ b) h k same =
    let both = λ (first : units_of block ≡ units_of other) (rest : flat_map units_of a ≡ flat_map units_of b).
    ap₂ ◌++◌ (block_rows t w block other (flat_map units_of a ++ []) (flat_map units_of b ++ []) h.0 k.0 first) (blocks_same t w a b h.1 k.1 rest) in
    ⊎_elim
    (λ p. let ends = block_ends t w block other (flat_map units_of a) (flat_map units_of b) p.0 h.0 k.0 p.1 p.2 in both (sym ends.0) ends.1)
    (λ p. let ends = block_ends t w other block (flat_map units_of b) (flat_map units_of a) p.0 k.0 h.0 p.1 p.2 in both ends.0 (sym ends.1))
    (fronts (units_of block) (flat_map units_of a) (units_of other) (flat_map units_of b) same)

words_same : (t w : ℕ) (line : List ℕ) (rows others : List (List ℕ)) → IsWordWrapping t w line rows → IsWordWrapping t w line others → rows ≡ others
words_same t w line rows others h k =
    h.rows_are ∙ blocks_same t w h.blocks k.blocks h.wrapped k.wrapped (h.whole ∙ sym k.whole) ∙ sym k.rows_are

-- ---- in each mode

wrapping_same : (kind : WrapMode) (t w : ℕ) (line : List ℕ) (texts others : List (List ℕ)) → IsWrapping kind t w line texts → IsWrapping kind t w line others → texts ≡ others
wrapping_same mode.None t w line texts others h k = h ∙ sym k
wrapping_same mode.Word t w line texts others h k = words_same t w line texts others h k
wrapping_same mode.Glyph t w line texts others h k = glyphs_same t w line texts others h k
wrapping_same mode.WordOrGlyph t w line texts others h k = words_same t w line texts others h k

texts_same : (kind : WrapMode) (t w : ℕ) (line : List ℕ) (texts others : List (List ℕ)) → AreRowTexts kind t w line texts → AreRowTexts kind t w line others → texts ≡ others
texts_same kind t w [] texts others h k = h ∙ sym k
texts_same kind t w (byte ∷ line) texts others h k = wrapping_same kind t w (byte ∷ line) texts others h k

pub one_wrapping : (kind : WrapMode) (t w : ℕ) (line : List ℕ) (ranges others : List (ℕ × ℕ)) → IsWrapped kind t w line ranges → IsWrapped kind t w line others → ranges ≡ others
one_wrapping kind t w line ranges others h k =
    h.ranges_are ∙ ap (ranges_from 0) (texts_same kind t w line h.texts k.texts h.wrapped k.wrapped) ∙ sym k.ranges_are
