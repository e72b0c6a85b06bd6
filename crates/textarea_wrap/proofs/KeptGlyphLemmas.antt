-- Rows of clusters before a parting, followed by the rows of what is after it.
use Rattle.textarea_wrap.proofs.Prelude.{concat-append, map-append, take-append-drop}
use Rattle.std.proofs.lemmas.List.{drop-map, take-map}
use Rattle.std.proofs.Common.{◌≡◌, ℕ, ◌+◌, ◌<◌, true, List, [], ◌∷◌, ◌++◌, map, length, take, drop, refl, sym, ap, ap₂, subst, ◌∙◌, ⊎_elim, append_assoc, append-nil, length-append, arith}
use Rattle.textarea_wrap.specs.Prelude.{AllByRecursion, AreGlyphRows, IsGlyphRow, IsGlyphWrapping, Stretch, concat, stretches_of}
use Rattle.unicode_segmentation.specs.Grapheme.{graphemes}
use Rattle.textarea_util.proofs.Alls.{all_split}
use Rattle.textarea_wrap.proofs.FewestLemmas.{fronts}
use Rattle.textarea_wrap.proofs.GlyphLemmas.{concat-stretches_of, stretches_of-append}

abbrev pub AreSome : Stretch → Type 0
AreSome = AllByRecursion (λ p. 0 < length p)

-- segments without a byte are none
pub none_left : (e : Stretch) → AreSome e → length (concat e) ≡ 0 → e ≡ []
none_left [] some none = refl
none_left (p ∷ e) some none = let first = some.0 in absurd (omega (arith, length-append p (concat e)))

-- of one list, two fronts with as many bytes are the same
pub front_same : (a b c d : Stretch) → a ++ b ≡ c ++ d → AreSome (a ++ b) → AreSome (c ++ d) → length (concat a) ≡ length (concat c) → (a ≡ c) × (b ≡ d)
front_same a b c d same some others bytes =
    ⊎_elim
    (λ p.
    let sizes : length (concat c) ≡ length (concat a) + length (concat p.0) = ap (λ t. length (concat t)) p.1 ∙ ap length (concat-append a p.0) ∙ length-append (concat a) (concat p.0) in
    let nothing : p.0 ≡ [] = none_left p.0 (all_split (λ x. 0 < length x) p.0 d (subst AreSome p.2 (all_split (λ x. 0 < length x) a b some).1)).0 (omega arith) in
    (sym (p.1 ∙ ap (λ t. a ++ t) nothing ∙ append-nil a), p.2 ∙ ap (λ t. t ++ d) nothing))
    (λ p.
    let sizes : length (concat a) ≡ length (concat c) + length (concat p.0) = ap (λ t. length (concat t)) p.1 ∙ ap length (concat-append c p.0) ∙ length-append (concat c) (concat p.0) in
    let nothing : p.0 ≡ [] = none_left p.0 (all_split (λ x. 0 < length x) p.0 b (subst AreSome p.2 (all_split (λ x. 0 < length x) c d others).1)).0 (omega arith) in
    (p.1 ∙ ap (λ t. c ++ t) nothing ∙ append-nil c, sym (p.2 ∙ ap (λ t. t ++ b) nothing)))
    (fronts a b c d same)

module _ (t w : ℕ) where
  AreGlyphRows-front : (a b : List Stretch) (later : Stretch) → AreGlyphRows t w (a ++ b) later → AreGlyphRows t w a (stretches_of b ++ later)
  AreGlyphRows-front [] b later h = tt
  AreGlyphRows-front (row ∷ a) b later h =
      let split : stretches_of (a ++ b) ++ later ≡ stretches_of a ++ (stretches_of b ++ later) = ap (λ s. s ++ later) (stretches_of-append a b) ∙ append_assoc (stretches_of a) (stretches_of b) later in
      (subst (IsGlyphRow t w row) split h.0, AreGlyphRows-front a b later h.1)

  pub AreGlyphRows-join : (a b : List Stretch) (later : Stretch) → AreGlyphRows t w a (stretches_of b ++ later) → AreGlyphRows t w b later → AreGlyphRows t w (a ++ b) later
  AreGlyphRows-join [] b later h k = k
  AreGlyphRows-join (row ∷ a) b later h k =
      let split : stretches_of a ++ (stretches_of b ++ later) ≡ stretches_of (a ++ b) ++ later = sym (ap (λ s. s ++ later) (stretches_of-append a b) ∙ append_assoc (stretches_of a) (stretches_of b) later) in
      (subst (IsGlyphRow t w row) split h.0, AreGlyphRows-join a b later h.1 k)

  -- a row reads only the first cluster after it
  glyph_row_reads : (row : Stretch) (between : Stretch) (next : List ℕ) (x y : Stretch) → IsGlyphRow t w row (between ++ next ∷ x) → IsGlyphRow t w row (between ++ next ∷ y)
  glyph_row_reads row [] next x y h = record { nonempty = h.nonempty; fits = h.fits; full = h.full }
  glyph_row_reads row (c ∷ between) next x y h = record { nonempty = h.nonempty; fits = h.fits; full = h.full }

  glyph_rows_read : (a : List Stretch) (next : List ℕ) (x y : Stretch) → AreGlyphRows t w a (next ∷ x) → AreGlyphRows t w a (next ∷ y)
  glyph_rows_read [] next x y h = tt
  glyph_rows_read (row ∷ a) next x y h = (glyph_row_reads row (stretches_of a) next x y h.0, glyph_rows_read a next x y h.1)

  -- The first rows of an old text, which have the clusters `front`, and then the rows of what is
  -- after them in a new text. Both texts go on with the cluster `next`.
  pub IsGlyphWrapping-kept : (old line tail : List ℕ) (texts others : List (List ℕ)) (front x y : Stretch) (next : List ℕ) (k : ℕ) →
      IsGlyphWrapping t w old texts → IsGlyphWrapping t w tail others →
      graphemes true old ≡ front ++ next ∷ x → graphemes true line ≡ front ++ next ∷ y → graphemes true tail ≡ next ∷ y → AreSome (graphemes true old) →
      length (concat (take k texts)) ≡ length (concat front) → IsGlyphWrapping t w line (take k texts ++ others)
  IsGlyphWrapping-kept old line tail texts others front x y next k was rest old_is line_is tail_is some bytes =
      let kept = take k was.stretches in
      let left = drop k was.stretches in
      let whole : stretches_of kept ++ stretches_of left ≡ graphemes true old =
      sym (stretches_of-append kept left) ∙ ap stretches_of (take-append-drop k was.stretches) ∙ was.whole in
      let rows : take k texts ≡ map concat kept = ap (take k) was.rows_are ∙ take-map concat k was.stretches in
      let size : length (concat (stretches_of kept)) ≡ length (concat front) =
      ap length (sym (concat-stretches_of kept)) ∙ ap (λ r. length (concat r)) (sym rows) ∙ bytes in
      let same = front_same (stretches_of kept) (stretches_of left) front (next ∷ x) (whole ∙ old_is) (subst AreSome (sym whole) some) (subst AreSome old_is some) size in
      let wrapped : AreGlyphRows t w kept (stretches_of left ++ []) =
      AreGlyphRows-front kept left [] (subst (λ s. AreGlyphRows t w s []) (sym (take-append-drop k was.stretches)) was.wrapped) in
      let reads : AreGlyphRows t w kept (next ∷ (y ++ [])) =
      glyph_rows_read kept next (x ++ []) (y ++ []) (subst (λ s. AreGlyphRows t w kept (s ++ [])) same.1 wrapped) in
      let after : stretches_of rest.stretches ≡ next ∷ y = rest.whole ∙ tail_is in
      record {
        stretches = kept ++ rest.stretches;
        whole = stretches_of-append kept rest.stretches ∙ ap₂ ◌++◌ same.0 after ∙ sym line_is;
        wrapped = AreGlyphRows-join kept rest.stretches [] (subst (λ s. AreGlyphRows t w kept (s ++ [])) (sym after) reads) rest.wrapped;
        rows_are = ap₂ ◌++◌ rows rest.rows_are ∙ sym (map-append concat kept rest.stretches);
      }

  AreGlyphRows-back : (a b : List Stretch) (later : Stretch) → AreGlyphRows t w (a ++ b) later → AreGlyphRows t w b later
  AreGlyphRows-back [] b later h = h
  AreGlyphRows-back (row ∷ a) b later h = AreGlyphRows-back a b later h.1

  -- the other rows are those of what is after the first ones
  pub IsGlyphWrapping-rest : (old tail : List ℕ) (texts : List (List ℕ)) (front : Stretch) (k : ℕ) → IsGlyphWrapping t w old texts → graphemes true old ≡ front ++ graphemes true tail →
      AreSome (graphemes true old) → length (concat (take k texts)) ≡ length (concat front) → IsGlyphWrapping t w tail (drop k texts)
  IsGlyphWrapping-rest old tail texts front k was old_is some bytes =
      let kept = take k was.stretches in
      let left = drop k was.stretches in
      let whole : stretches_of kept ++ stretches_of left ≡ graphemes true old =
      sym (stretches_of-append kept left) ∙ ap stretches_of (take-append-drop k was.stretches) ∙ was.whole in
      let rows : take k texts ≡ map concat kept = ap (take k) was.rows_are ∙ take-map concat k was.stretches in
      let size : length (concat (stretches_of kept)) ≡ length (concat front) =
      ap length (sym (concat-stretches_of kept)) ∙ ap (λ r. length (concat r)) (sym rows) ∙ bytes in
      let same = front_same (stretches_of kept) (stretches_of left) front (graphemes true tail) (whole ∙ old_is) (subst AreSome (sym whole) some) (subst AreSome old_is some) size in
      record {
        stretches = left;
        whole = same.1;
        wrapped = AreGlyphRows-back kept left [] (subst (λ s. AreGlyphRows t w s []) (sym (take-append-drop k was.stretches)) was.wrapped);
        rows_are = ap (drop k) was.rows_are ∙ drop-map concat k was.stretches;
      }
