-- `zero` makes a value of no bytes, at 0.
use Rattle.std.proofs.Common.{[], ◌∷◌, refl}
use Rattle.std.proofs.raw_atomic.Walks.{proved}
use types.Kit.{‵, raw, ◌$◌, ◌∵◌, !, qed, keep, join, suffices, use0, done}
use types.Run.{no_more, and_then, returns, enter}
use types.Part.{agg}
use types.ByLocal.{alloc_all, pass_all, free_all, look_at, get, sets}
use denote.Steps.{nothing}
use denote.Triple.Entry.{on_entry}
use denote.Triple.Walked.{says, ends_at}
use Rattle.textarea_wrap.specs.contracts.ghost_count.GhostCount as T
use Rattle.textarea_wrap.specs.contracts.ghost_count.GhostCount.zero as it
use Rattle.textarea_wrap.specs.contracts.ghost_count.GhostCount.zero.Key.{name as #it}
use Rattle.textarea_wrap.proofs.TallyWalks.{token, tally_at, tally_made}
use Rattle.textarea_wrap.proofs.ghost_count.GhostCount.zero.Statement as stated
use Rattle.textarea_wrap.proofs.ghost_count.GhostCount.zero.Code as code

pub zero_spec : {M : Type 1} → stated.statement M
zero_spec 𝓤 𝓛 𝓜 𝓡 wired =
    let c = it.clauses 𝓛 𝓜.mem 𝓡.returns in
    proved 𝓛 it.ended tt c 𝓜 𝓡 tt #it code.function (code.unfolded 𝓤 𝓛.H 𝓜 𝓡 wired) (λ κs. tt) (λ κs. tt) (λ κs qs bounds a g are.
    qed 𝓛 (raw (on_entry 𝓛 it.signature κs qs a tt) ∷ raw ((c κs a).requires g) ∷ []) ∵ keep ! [] $
    enter ! _ _ _ _ _ $ alloc_all ! (λ l. pass_all ! refl tt $
    sets ! (agg ! (no_more !)) refl (tt, tt) $ sets ! (agg ! (and_then ! (get ! refl) (no_more !))) refl (tt, (tt, tt)) $
    returns ! (look_at ! 0 refl) $ free_all ! refl $
    use0 𝓛 (‵ ((T.the_row).own_val (tally_at 0) (token ∷ []))) (tally_made 𝓛 0) $
    suffices ! _ (ends_at 𝓛 it.ended tt c ((κs, qs, bounds, a, tt), g) token (tally_at 0) tt tt) $ says ! refl $
    nothing ! $ join ! $ nothing ! $ done !))
