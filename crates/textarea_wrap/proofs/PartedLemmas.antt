-- A text that is cut after a closing character: its segments are those of both parts.
use Rattle.std.proofs.Common.{◌≡◌, ℕ, Bool, true, false, List, [], ◌∷◌, ◌++◌, map, refl, sym, ap, ap₂, ◌∙◌, append-nil}
use Rattle.std.specs.Prelude.{encode_utf8_all}
use Rattle.textarea_wrap.proofs.Prelude.{chars-append, map-append}
use Rattle.textarea_wrap.specs.Prelude.{IsUtf8, chars}
use Rattle.unicode_segmentation.specs.Segments.{Rule, cut, segments}
use Rattle.unicode_segmentation.proofs.SegmentsLemmas.{attach}

-- After this character the rule reads nothing before it, and before it nothing after it.
pub record IsCloser (rule : Rule) (d : ℕ) : Type 0 where
  pub last : rule (d ∷ []) [] ≡ true
  pub same : (before after : List ℕ) → rule (d ∷ before) after ≡ rule (d ∷ []) after
  pub later : (c : ℕ) (between before after : List ℕ) → rule (c ∷ (between ++ d ∷ before)) after ≡ rule (c ∷ between) after
  pub earlier : (c : ℕ) (before between after : List ℕ) → rule (c ∷ before) ((between ++ d ∷ []) ++ after) ≡ rule (c ∷ before) (between ++ d ∷ [])

attach_some : (b : Bool) (x : List ℕ) (ps : List (List ℕ)) → (q : List ℕ) × (qs : List (List ℕ)) × (attach b x ps ≡ q ∷ qs)
attach_some true x ps = (x, ps, refl)
attach_some false x [] = (x, [], refl)
attach_some false x (p ∷ ps) = (x ++ p, ps, refl)

attach-append : (b : Bool) (x : List ℕ) (ps qs : List (List ℕ)) → (q : List ℕ) × (rest : List (List ℕ)) × (ps ≡ q ∷ rest) → attach b x (ps ++ qs) ≡ attach b x ps ++ qs
attach-append true x ps qs some = refl
attach-append false x [] qs some = let no = some.2 in absurd cc
attach-append false x (p ∷ ps) qs some = refl

module _ (rule : Rule) (d : ℕ) (closes : IsCloser rule d) where
  cut-after : (between before cs after : List ℕ) → cut rule (between ++ d ∷ before) cs after ≡ cut rule between cs after
  unfolding cut
  cut-after between before [] after = refl
  cut-after between before (c ∷ cs) after =
      ap₂ (λ b t. attach b (c ∷ []) t) (closes.later c between before (cs ++ after)) (cut-after (c ∷ between) before cs after)

  cut_some : (before cs : List ℕ) → (q : List ℕ) × (qs : List (List ℕ)) × (cut rule before (cs ++ d ∷ []) [] ≡ q ∷ qs)
  unfolding cut
  cut_some before [] = attach_some (rule (d ∷ before) []) (d ∷ []) []
  cut_some before (c ∷ cs) = attach_some (rule (c ∷ before) ((cs ++ d ∷ []) ++ [])) (c ∷ []) (cut rule (c ∷ before) (cs ++ d ∷ []) [])

  cut-parted : (before xs ys : List ℕ) → rule (d ∷ []) ys ≡ true → cut rule before ((xs ++ d ∷ []) ++ ys) [] ≡ cut rule before (xs ++ d ∷ []) [] ++ cut rule [] ys []
  unfolding cut
  cut-parted before [] ys breaks =
      let whole : rule (d ∷ before) (ys ++ []) ≡ true = ap (rule (d ∷ before)) (append-nil ys) ∙ closes.same before ys ∙ breaks in
      let front : rule (d ∷ before) [] ≡ true = closes.same before [] ∙ closes.last in
      ap₂ (λ b t. attach b (d ∷ []) t) whole (cut-after [] before ys [])
      ∙ ap (λ b. attach b (d ∷ []) [] ++ cut rule [] ys []) (sym front)
  cut-parted before (x ∷ xs) ys breaks =
      let front = xs ++ d ∷ [] in
      let same : rule (x ∷ before) ((front ++ ys) ++ []) ≡ rule (x ∷ before) (front ++ []) =
      ap (rule (x ∷ before)) (append-nil (front ++ ys)) ∙ closes.earlier x before xs ys ∙ ap (rule (x ∷ before)) (sym (append-nil front)) in
      ap₂ (λ b t. attach b (x ∷ []) t) same (cut-parted (x ∷ before) xs ys breaks)
      ∙ attach-append (rule (x ∷ before) (front ++ [])) (x ∷ []) (cut rule (x ∷ before) front []) (cut rule [] ys []) (cut_some (x ∷ before) xs)

  pub segments-parted : (front back xs : List ℕ) → IsUtf8 front → chars front ≡ xs ++ d ∷ [] → rule (d ∷ []) (chars back) ≡ true →
      segments rule (front ++ back) ≡ segments rule front ++ segments rule back
  unfolding segments
  segments-parted front back xs u ends breaks =
      ap (λ t. map encode_utf8_all (cut rule [] t [])) (chars-append front back u ∙ ap (λ t. t ++ chars back) ends)
      ∙ ap (map encode_utf8_all) (cut-parted [] xs (chars back) breaks)
      ∙ map-append encode_utf8_all (cut rule [] (xs ++ d ∷ []) []) (cut rule [] (chars back) [])
      ∙ ap (λ t. map encode_utf8_all (cut rule [] t []) ++ segments rule back) (sym ends)
