-- A text that is split between two plain characters: the clusters of both parts are the clusters of
-- the text.
use Rattle.std.proofs.Common.{◌≡◌, ℕ, Bool, true, false, cond, List, [], ◌∷◌, ◌++◌, map, refl, sym, ap, ap₂, ◌∙◌}
use Rattle.std.proofs.lemmas.Bool.{cond-true}
use Rattle.std.proofs.lemmas.List.{map-append}
use Rattle.std.proofs.lemmas.Str.{chars-append}
use Rattle.std.specs.Prelude.{encode_utf8_all}
use Rattle.std.specs.Str.{chars, IsUtf8}
use Rattle.unicode_segmentation.specs.Grapheme.{graphemes, is_grapheme_break}
use Rattle.unicode_segmentation.specs.Segments.{prepend, cut, segments}
use Rattle.textarea_paint.proofs.PlainLemmas.{IsPlain, breaks_between, cut-anew, plain-anew}

-- ---- pieces

one_piece : (b : Bool) (piece : List ℕ) → cond b (piece ∷ []) (prepend piece []) ≡ piece ∷ []
one_piece true piece = refl
one_piece false piece = refl

some_piece : (b : Bool) (part : List ℕ) (pieces : List (List ℕ)) →
    (first : List ℕ) × (others : List (List ℕ)) × (cond b (part ∷ pieces) (prepend part pieces) ≡ first ∷ others)
some_piece true part pieces = (part, pieces, refl)
some_piece false part [] = (part, [], refl)
some_piece false part (piece ∷ pieces) = (part ++ piece, pieces, refl)

cut-some : (before xs : List ℕ) (c : ℕ) →
    (first : List ℕ) × (others : List (List ℕ)) × (cut (is_grapheme_break true) before (xs ++ c ∷ []) [] ≡ first ∷ others)
unfolding cut
cut-some before [] c = some_piece (is_grapheme_break true (c ∷ before) []) (c ∷ []) []
cut-some before (x ∷ xs) c =
    some_piece (is_grapheme_break true (x ∷ before) ((xs ++ c ∷ []) ++ [])) (x ∷ []) (cut (is_grapheme_break true) (x ∷ before) (xs ++ c ∷ []) [])

piece-append : (b : Bool) (part first : List ℕ) (others more : List (List ℕ)) →
    cond b (part ∷ ((first ∷ others) ++ more)) (prepend part ((first ∷ others) ++ more)) ≡ cond b (part ∷ (first ∷ others)) (prepend part (first ∷ others)) ++ more
piece-append true part first others more = refl
piece-append false part first others more = refl

-- of the characters after a place, a boundary depends only on the next one
reads_next : (x : ℕ) (before xs : List ℕ) (c : ℕ) (more : List ℕ) →
    is_grapheme_break true (x ∷ before) (((xs ++ c ∷ []) ++ more) ++ []) ≡ is_grapheme_break true (x ∷ before) ((xs ++ c ∷ []) ++ [])
unfolding is_grapheme_break
reads_next x before [] c more = refl
reads_next x before (y ∷ xs) c more = refl

-- ---- the seam

module _ (c d : ℕ) (left : IsPlain c) (right : IsPlain d) (ys : List ℕ) where
  cut-seam : (xs before : List ℕ) →
      cut (is_grapheme_break true) before ((xs ++ c ∷ []) ++ d ∷ ys) [] ≡ cut (is_grapheme_break true) before (xs ++ c ∷ []) [] ++ cut (is_grapheme_break true) [] (d ∷ ys) []
  unfolding cut
  cut-seam [] before =
      cond-true _ _ _ (breaks_between c d left right before (ys ++ []))
      ∙ ap (λ (pieces : List (List ℕ)). (c ∷ []) ∷ pieces) (cut-anew d (c ∷ before) (plain-anew d right (c ∷ before)) ys)
      ∙ sym (ap (λ (pieces : List (List ℕ)). pieces ++ cut (is_grapheme_break true) [] (d ∷ ys) []) (one_piece (is_grapheme_break true (c ∷ before) []) (c ∷ [])))
  cut-seam (x ∷ xs) before =
      let some = cut-some (x ∷ before) xs c in
      let back = cut (is_grapheme_break true) [] (d ∷ ys) [] in
      let b = is_grapheme_break true (x ∷ before) ((xs ++ c ∷ []) ++ []) in
      ap₂ (λ (t : Bool) (pieces : List (List ℕ)). cond t ((x ∷ []) ∷ pieces) (prepend (x ∷ []) pieces)) (reads_next x before xs c (d ∷ ys))
      (cut-seam xs (x ∷ before) ∙ ap (λ (pieces : List (List ℕ)). pieces ++ back) some.2)
      ∙ piece-append b (x ∷ []) some.0 some.1 back
      ∙ ap (λ (pieces : List (List ℕ)). cond b ((x ∷ []) ∷ pieces) (prepend (x ∷ []) pieces) ++ back) (sym some.2)

  pub graphemes-seam : (front back xs : List ℕ) → IsUtf8 front → chars front ≡ xs ++ c ∷ [] → chars back ≡ d ∷ ys → graphemes true (front ++ back) ≡ graphemes true front ++ graphemes true back
  unfolding segments
  graphemes-seam front back xs utf8 front_is back_is =
      ap (λ cs. map encode_utf8_all (cut (is_grapheme_break true) [] cs [])) (chars-append front back utf8 ∙ ap₂ (λ (f : List ℕ) (b : List ℕ). f ++ b) front_is back_is)
      ∙ ap (map encode_utf8_all) (cut-seam xs [])
      ∙ map-append encode_utf8_all (cut (is_grapheme_break true) [] (xs ++ c ∷ []) []) (cut (is_grapheme_break true) [] (d ∷ ys) [])
      ∙ ap₂ (λ (f : List ℕ) (b : List ℕ). map encode_utf8_all (cut (is_grapheme_break true) [] f []) ++ map encode_utf8_all (cut (is_grapheme_break true) [] b [])) (sym front_is) (sym back_is)
