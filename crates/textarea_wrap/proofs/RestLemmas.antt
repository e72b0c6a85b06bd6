-- What remains of a row that fits, without its front.
use Rattle.textarea_wrap.proofs.Prelude.{common_steps, cases_lt}
use Rattle.std.proofs.Common.{◌≡◌, ℕ, ◌<◌, ◌⊎◌, inl, inr, List, [], ◌∷◌, ◌++◌, length, refl, sym, subst, ⊎_elim, length-append, arith}
use Rattle.textarea_wrap.specs.Prelude.{stretch_width, Stretch, IsBlankCluster, IsFittingRow, IsFittingStretch, line_units}
use Rattle.textarea_util.proofs.Alls.{all_split}
use Rattle.textarea_wrap.proofs.BlankLemmas.{AreBlanksClusters-line_units}
use Rattle.textarea_wrap.proofs.ColumnLemmas.{stretch_width-back}
use Rattle.textarea_wrap.proofs.FewestWordLemmas.{BlankIsCluster, AreBlanksClusters, later_fits, wide_ends}
use Rattle.textarea_wrap.proofs.OneRowLemmas.{last_segment}

pub clusters_fit : (t w : ℕ) (front back : Stretch) → 0 < length back → IsFittingRow t w (front ++ back) → IsFittingRow t w back
clusters_fit t w front back some fit = grind (arith, common_steps, stretch_width-back t front back, length-append front back)

-- one unit remains: it fits, or it is whitespace that hung over
one_left : (t w : ℕ) (front later : Stretch) (unit : List ℕ) → AreBlanksClusters (unit ∷ []) → IsFittingStretch t w (front ++ unit ∷ []) later → IsFittingStretch t w (unit ∷ []) later ⊎ IsBlankCluster (unit ∷ [])
one_left t w front later unit blanks fit =
    ⊎_elim
    (λ (wide : w < stretch_width t (unit ∷ [])).
    let ends = wide_ends t w (front ++ unit ∷ []) later fit front unit [] refl wide in
    inr (unit, refl, ends.2, blanks.0 ends.2))
    (λ within. inl (record { front = []; last = unit; stretch_is = refl; fits = inl within }))
    (cases_lt w (stretch_width t (unit ∷ [])))

-- several units remain, of which the last is that of the run
several_left : (t w : ℕ) (front segment later : Stretch) (last : List ℕ) → 0 < length segment → IsFittingStretch t w (front ++ (segment ++ last ∷ [])) later → IsFittingStretch t w (segment ++ last ∷ []) later
several_left t w front segment later last some fit =
    record { front = segment; last = last; stretch_is = refl; fits = later_fits t w (front ++ (segment ++ last ∷ [])) later fit front segment last [] refl some }

left : (t w : ℕ) (front segment later : Stretch) (last : List ℕ) → AreBlanksClusters (segment ++ last ∷ []) → IsFittingStretch t w (front ++ (segment ++ last ∷ [])) later →
    IsFittingStretch t w (segment ++ last ∷ []) later ⊎ IsBlankCluster (segment ++ last ∷ [])
left t w front [] later last blanks fit = one_left t w front later last blanks fit
left t w front (unit ∷ segment) later last blanks fit = inl (several_left t w front (unit ∷ segment) later last (omega arith) fit)

rest_left : (t w : ℕ) (front back later : Stretch) → 0 < length back → AreBlanksClusters back → IsFittingStretch t w (front ++ back) later → IsFittingStretch t w back later ⊎ IsBlankCluster back
rest_left t w front [] later some blanks fit = absurd (omega arith)
rest_left t w front (unit ∷ back) later some blanks fit =
    let end = last_segment unit back in
    subst (λ (b : Stretch). IsFittingStretch t w b later ⊎ IsBlankCluster b) (sym end.2)
    (left t w front end.0 later end.1 (subst AreBlanksClusters end.2 blanks) (subst (λ (b : Stretch). IsFittingStretch t w (front ++ b) later) end.2 fit))

pub units_fit : (t w : ℕ) (line : List ℕ) (above front back later : Stretch) → above ++ ((front ++ back) ++ later) ≡ line_units line → 0 < length back →
    IsFittingStretch t w (front ++ back) later → IsFittingStretch t w back later ⊎ IsBlankCluster back
units_fit t w line above front back later is some fit =
    let all : AreBlanksClusters (above ++ ((front ++ back) ++ later)) = subst AreBlanksClusters (sym is) (AreBlanksClusters-line_units line) in
    let row = (all_split BlankIsCluster (front ++ back) later (all_split BlankIsCluster above ((front ++ back) ++ later) all).1).0 in
    rest_left t w front back later some (all_split BlankIsCluster front back row).1 fit
