-- A line that isn't wrapped or is no wider than the width takes one row, whatever its units are.
use Rattle.textarea_wrap.proofs.Prelude.{common_steps, chars-nil, chars-append}
use Rattle.std.proofs.Common.{◌≡◌, ℕ, ◌<◌, ◌≤◌, inl, true, List, [], ◌∷◌, ◌++◌, length, refl, sym, ap, subst, ◌∙◌, append-nil, arith}
use Rattle.textarea_wrap.specs.Prelude.{concat, flat_map, IsUtf8, chars, end_column, stretch_width, line_units, Stretch, shared, IsFittingStretch, ranges_from, WrapMode, IsWrapped, TakesOneRow}
use Rattle.unicode_segmentation.specs.Grapheme.{graphemes, is_grapheme_break}
use Rattle.unicode_segmentation.proofs.SegmentsLemmas.{concat-segments}
use Rattle.textarea_wrap.specs.declared.wrap.WrapMode.TheVariants as mode
use Rattle.textarea_wrap.proofs.GlyphLemmas.{nonempty_from_bytes}
use Rattle.textarea_wrap.proofs.OneWrappingLemmas.{one_wrapping}
use Rattle.textarea_wrap.proofs.RowLemmas.{AreSegments, AreSegments-segments, AreSegments-line_units, concat-line_units, IsWrapped-empty, IsWrapped-whole, IsWrapped-glyphs, IsWrapped-units}

pub chars-word_segments : (xs : Stretch) → AreSegments xs → flat_map chars xs ≡ chars (concat xs)
chars-word_segments [] p = sym chars-nil
chars-word_segments (x ∷ xs) p = ap (λ t. chars x ++ t) (chars-word_segments xs p.1) ∙ sym (chars-append x (concat xs) p.0.utf8)

-- segments that make up a text are together as wide as the text
pub stretch_width-whole : (t : ℕ) (text : List ℕ) (word_segments : Stretch) → AreSegments word_segments → concat word_segments ≡ text → stretch_width t word_segments ≡ end_column t 0 (chars text)
stretch_width-whole t text word_segments p joined = ap (end_column t 0) (chars-word_segments word_segments p ∙ ap chars joined)

-- the last one of some segments
pub last_segment : (segment : List ℕ) (stretch : Stretch) → (front : Stretch) × (last : List ℕ) × (segment ∷ stretch ≡ front ++ last ∷ [])
last_segment segment [] = ([], segment, refl)
last_segment segment (next ∷ stretch) = let rest = last_segment next stretch in (segment ∷ rest.0, rest.1, ap (λ t. segment ∷ t) rest.2)

one_fitting_stretch : (t w : ℕ) (stretch : Stretch) → 0 < length stretch → stretch_width t stretch ≤ w → IsFittingStretch t w stretch []
one_fitting_stretch t w [] some within = absurd (omega arith)
one_fitting_stretch t w (segment ∷ stretch) some within =
    let ends = last_segment segment stretch in
    record { front = ends.0; last = ends.1; stretch_is = ends.2; fits = inl (subst (λ r. stretch_width t r ≤ w) ends.2 within) }

module _ (t w : ℕ) (line : List ℕ) (ranges : List (ℕ × ℕ)) (u : IsUtf8 line) (some : 0 < length line) (within : end_column t 0 (chars line) ≤ w)
    (ranges_are : ranges ≡ (0, length line) ∷ []) where
  one_row : ranges ≡ ranges_from 0 (line ∷ [])
  one_row = ranges_are ∙ ap (λ n. (0, n) ∷ []) (omega arith)

  within_segments : (word_segments : Stretch) → AreSegments word_segments → concat word_segments ≡ line → (0 < length word_segments) × (stretch_width t word_segments ≤ w)
  within_segments word_segments p joined =
      (nonempty_from_bytes word_segments (omega (arith, ap length joined)), subst (λ n. n ≤ w) (sym (stretch_width-whole t line word_segments p joined)) within)

  clusters_joined : concat (graphemes true line) ≡ line
  clusters_joined = concat-segments (is_grapheme_break true) line u

  one_glyph_row : IsWrapped mode.Glyph t w line ranges
  one_glyph_row =
      let fits = within_segments (graphemes true line) (AreSegments-segments (is_grapheme_break true) line u) clusters_joined in
      IsWrapped-glyphs t w line ranges u some (line ∷ []) record {
        stretches = graphemes true line ∷ [];
        whole = append-nil (graphemes true line);
        wrapped = (record { nonempty = fits.0; fits = inl fits.1; full = tt }, tt);
        rows_are = ap (λ row. row ∷ []) (sym clusters_joined);
      } one_row

  units_fit : IsFittingStretch t w (line_units line) []
  units_fit = let fits = within_segments (line_units line) (AreSegments-line_units line u) (concat-line_units line u) in one_fitting_stretch t w (line_units line) fits.0 fits.1

  one_unit_row : ranges ≡ ranges_from 0 (concat (line_units line) ∷ [])
  one_unit_row = one_row ∙ ap (λ row. ranges_from 0 (row ∷ [])) (sym (concat-line_units line u))

  one_unit : (kind : WrapMode) → (kind ≡ mode.None → ⊥) → (kind ≡ mode.Glyph → ⊥) → IsWrapped kind t w line ranges
  one_unit = IsWrapped-units t w line ranges u some (shared (line_units line) ∷ []) (append-nil (line_units line)) ((units_fit, tt), tt) one_unit_row

  one_row_within : (kind : WrapMode) → IsWrapped kind t w line ranges
  one_row_within mode.None = IsWrapped-whole t w line ranges u some ranges_are
  one_row_within mode.Word = one_unit mode.Word (λ e. cc) (λ e. cc)
  one_row_within mode.Glyph = one_glyph_row
  one_row_within mode.WordOrGlyph = one_unit mode.WordOrGlyph (λ e. cc) (λ e. cc)

pub IsWrapped-one_row : (kind : WrapMode) (t w : ℕ) (line : List ℕ) (ranges : List (ℕ × ℕ)) → IsUtf8 line → TakesOneRow kind t w line
    → ranges ≡ (0, length line) ∷ [] → IsWrapped kind t w line ranges
IsWrapped-one_row kind t w [] ranges u one ranges_are = IsWrapped-empty kind t w [] ranges refl ranges_are
IsWrapped-one_row kind t w (byte ∷ line) ranges u one ranges_are = grind (arith, common_steps, IsWrapped-whole, one_row_within)

-- so it has no other rows
pub length-one_row : (kind : WrapMode) (t w : ℕ) (line : List ℕ) (ranges : List (ℕ × ℕ)) → IsUtf8 line → TakesOneRow kind t w line → IsWrapped kind t w line ranges → length ranges ≡ 1
length-one_row kind t w line ranges u one wrapped =
    ap length (one_wrapping kind t w line ranges ((0, length line) ∷ []) wrapped (IsWrapped-one_row kind t w line ((0, length line) ∷ []) u one refl))

-- only a line that isn't empty is wider than a width
pub nonempty_unless_fits : (t w : ℕ) (line : List ℕ) → (end_column t 0 (chars line) ≤ w → ⊥) → 0 < length line
nonempty_unless_fits t w [] wide = absurd (wide (subst (λ cs. end_column t 0 cs ≤ w) (sym chars-nil) (omega arith)))
nonempty_unless_fits t w (byte ∷ line) wide = omega arith
