-- A `GhostCount` has one machine value, of no bytes, and owns nothing. Assumes `Logic`.
use mathlib.Core.Path.{refl}
use mathlib.Core.List.{[], ◌∷◌}
use Prim.Native.Nat.{ℕ}
use seplogic.Ra.Ura.{Ura}
use mir.Val.{Val, vstruct, vcons, vnil}
use base.Logic.{ent, emp}
use types.Logic.{Logic, sem}
use denote.Shadow.{makes_shadow}
use Rattle.textarea_wrap.specs.declared.ghost_count.GhostCount.{GhostCount}
use Rattle.textarea_wrap.specs.contracts.ghost_count.GhostCount as T

abbrev pub token : Val
token = vstruct (vcons (vstruct vnil) vnil)

abbrev pub tally_at : ℕ → GhostCount
tally_at n = record { marker = record {}; number = n }

pub tally_made : {M : Type 1} {𝓤 : Ura M} (𝓛 : Logic 𝓤) (n : ℕ) → ent 𝓤 (emp 𝓤) (sem 𝓛 ((T.the_row).own_val (tally_at n) (token ∷ [])))
tally_made 𝓛 n = makes_shadow 𝓛 ((T.the_row).own_val (tally_at n) (token ∷ [])) ((λ vss. (tt, ((λ uss. (tt, tt)), tt))), tt) (((vstruct vnil ∷ [], tt), (refl, ((tt, (refl, tt)), tt))), tt)
