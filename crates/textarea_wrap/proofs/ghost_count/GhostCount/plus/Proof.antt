-- `plus` makes a value of no bytes, at the number of the reference and the amount.
use Rattle.std.proofs.Common.{◌+◌, [], ◌∷◌, refl, w64}
use Rattle.std.proofs.raw_atomic.Walks.{proved}
use types.Kit.{‵, raw, ◌⊛◌, ◌$◌, ◌∵◌, !, qed, move, keep, drop, split, fjoin, suffices, use0, done}
use types.Run.{no_more, and_then, returns, enter}
use types.Part.{agg}
use types.ByLocal.{alloc_all, pass_all, free_all, look_at, get, sets}
use denote.Exit.{yes}
use denote.Builtin.{RefOf}
use denote.Plain.{UInt, uint_vals, uint_Tells}
use denote.Ref.{shr_vals}
use denote.RattleType.{owns}
use denote.Signature.{plain, types_at}
use denote.Steps.{nothing}
use denote.Triple.Entry.{alive}
use denote.Triple.Walked.{says, Stays, stay_dropped, walk_of, ends_at, Goes-dropped}
use Rattle.textarea_wrap.specs.contracts.ghost_count.GhostCount as T
use Rattle.textarea_wrap.specs.contracts.ghost_count.GhostCount.plus as it
use Rattle.textarea_wrap.specs.contracts.ghost_count.GhostCount.plus.Key.{name as #it}
use Rattle.textarea_wrap.proofs.TallyWalks.{token, tally_at, tally_made}
use Rattle.textarea_wrap.proofs.ghost_count.GhostCount.plus.Statement as stated
use Rattle.textarea_wrap.proofs.ghost_count.GhostCount.plus.Code as code

abbrev stayed : Stays it.ended.signature.params it.ended.kept
stayed = (stay_dropped _ yes, (stay_dropped _ yes, tt))

pub plus_spec : {M : Type 1} → stated.statement M
plus_spec 𝓤 𝓛 𝓜 𝓡 wired =
    let c = it.clauses 𝓛 𝓜.mem 𝓡.returns in
    let W = walk_of 𝓛 it.ended stayed c in
    let reference = Goes-dropped 𝓛 1 (RefOf (0 ∷ []) tt (plain (λ _. T.the_row)) (λ _. tt)) yes (λ κs x f. refl) in
    let amount = Goes-dropped 𝓛 1 (plain (λ _. UInt w64)) yes (λ κs x f. refl) in
    proved 𝓛 it.ended stayed c 𝓜 𝓡 (reference, (amount, tt)) #it code.function (code.unfolded 𝓤 𝓛.H 𝓜 𝓡 wired)
    (λ κs. (shr_vals, (uint_vals w64, tt))) (λ κs. ((λ r vs s. s.0), (uint_Tells w64, tt))) (λ κs qs bounds a g are.
    let y : W.Ghost = ((κs, qs, bounds, a, (shr_vals a.0, (uint_vals w64 a.1.0, tt))), g) in
    let number = a.0.now.number + a.1.0 in
    qed 𝓛 ((raw (alive 𝓛 it.ended.signature κs qs) ⊛ ‵ (owns (types_at it.ended.signature.params κs) a y.0.4)) ∷ raw ((c κs a).requires g) ∷ []) ∵
    keep ! (0 ∷ []) $ split ! $ move ! (1 ∷ []) $ drop ! $
    enter ! _ _ _ _ _ $ alloc_all ! (λ l. pass_all ! refl ((tt, tt), ((tt, record { fits = are.1.0.1 }), tt)) $
    sets ! (agg ! (no_more !)) refl (tt, tt) $ sets ! (agg ! (and_then ! (get ! refl) (no_more !))) refl (tt, (tt, tt)) $
    returns ! (look_at ! 0 refl) $ free_all ! refl $
    use0 𝓛 (‵ ((T.the_row).own_val (tally_at number) (token ∷ []))) (tally_made 𝓛 number) $
    suffices ! _ (ends_at 𝓛 it.ended stayed c y token (tally_at number) (tt, (tt, tt)) (tt, (tt, tt))) $ says ! refl $
    nothing ! $ nothing ! $ fjoin ! $ nothing ! $ fjoin ! $ move ! (2 ∷ 0 ∷ 1 ∷ []) $ done !))
