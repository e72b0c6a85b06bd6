-- The longest prefix of grapheme clusters whose widths sum to at most the room.
use Rattle.std.proofs.Common.{◌≡◌, ℕ, zero, suc, ◌-◌, ◌<◌, ◌≤◌, nat_le, Bool, true, false, List, [], ◌∷◌, length, take, inl, inr, refl, sym, ap, subst, arith}
use Rattle.std.proofs.lemmas.Bool.{cases_lt}
use Rattle.std.proofs.lemmas.Bool.Decides.{nat_tests}
use Rattle.std.proofs.lemmas.List.{length-take-le}
use Rattle.std.proofs.lemmas.List.Sums.{sum_by-cons}
use Rattle.std.specs.Prelude.{if◌then◌else◌}
use Rattle.textarea_paint.specs.Clusters.{Cluster}
use Rattle.textarea_paint.specs.Columns.{columns_of}
use Rattle.textarea_paint.specs.Row.{IsLongestFront, front_within, longest_front, clusters_width}

-- a cluster that fits is followed by the longest prefix of the others
pub front-fits : (room most : ℕ) (cluster : Cluster) (clusters : List Cluster) → columns_of cluster.text ≤ room →
    longest_front room (suc most) (cluster ∷ clusters) ≡ cluster ∷ longest_front (room - columns_of cluster.text) most clusters
front-fits room zero cluster clusters fits = grind (arith, nat_tests, sum_by-cons (λ (c : Cluster). columns_of c.text) cluster [])
front-fits room (suc most) cluster clusters fits =
    grind (arith, nat_tests, front-fits room most cluster clusters fits, sum_by-cons (λ (c : Cluster). columns_of c.text) cluster (take (suc most) clusters))

-- a cluster that does not fit ends the row
pub front-full : (room most : ℕ) (cluster : Cluster) (clusters : List Cluster) → room < columns_of cluster.text → longest_front room most (cluster ∷ clusters) ≡ []
front-full room zero cluster clusters full = refl
front-full room (suc most) cluster clusters full =
    grind (arith, nat_tests, front-full room most cluster clusters full, sum_by-cons (λ (c : Cluster). columns_of c.text) cluster (take most clusters))

-- ---- the prefix is the longest

-- the longest of the prefixes of at most `most` clusters
record IsLongestUpTo (room most : ℕ) (clusters front : List Cluster) : Type 0 where
  is_front : front ≡ take (length front) clusters
  fits : clusters_width front ≤ room
  longest : (count : ℕ) → count ≤ most → clusters_width (take count clusters) ≤ room → count ≤ length front

-- one cluster more, which fits or not
longer : (test : Bool) (room most : ℕ) (clusters shorter : List Cluster) → suc most ≤ length clusters →
    (test ≡ true → clusters_width (take (suc most) clusters) ≤ room) → (test ≡ false → room < clusters_width (take (suc most) clusters)) →
    IsLongestUpTo room most clusters shorter → IsLongestUpTo room (suc most) clusters (if test then take (suc most) clusters else shorter)
longer true room most clusters shorter within fits full found =
    let all : length (take (suc most) clusters) ≡ suc most = length-take-le (suc most) clusters within in
    record { is_front = ap (λ n. take n clusters) (sym all); fits = fits refl; longest = λ count few narrow. omega (arith, all, few) }
longer false room most clusters shorter within fits full found = record {
  is_front = found.is_front;
  fits = found.fits;
  longest = λ count few narrow.
      elim (cases_lt most count) [
        | inl more ↦
            let same : count ≡ suc most = omega (arith, few, more) in
            let wide : clusters_width (take (suc most) clusters) ≤ room = subst (λ n. clusters_width (take n clusters) ≤ room) same narrow in
            absurd (omega (arith, full refl, wide))
        | inr less ↦ found.longest count less narrow
      ];
}

longest_up_to : (room most : ℕ) (clusters : List Cluster) → most ≤ length clusters → IsLongestUpTo room most clusters (longest_front room most clusters)
longest_up_to room zero clusters within = record { is_front = refl; fits = omega arith; longest = λ count few fits. few }
longest_up_to room (suc most) clusters within =
    longer (nat_le (clusters_width (take (suc most) clusters)) room) room most clusters (longest_front room most clusters) within
    (λ e. grind (arith, nat_tests)) (λ e. grind (arith, nat_tests)) (longest_up_to room most clusters (omega (arith, within)))

pub longest_of_all : (room : ℕ) (clusters : List Cluster) → IsLongestFront room clusters (front_within room clusters)
longest_of_all room clusters =
    let found = longest_up_to room (length clusters) clusters (omega arith) in
    record { is_front = found.is_front; fits = found.fits; longest = found.longest }
