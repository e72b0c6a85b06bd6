use Rattle.std.proofs.Common.{ℕ, Bool, ◌<◌, subst}
use Rattle.tui_textarea.specs.Prelude.{Fits, RestoresAll, Splice, State, after_edit}
use Rattle.tui_textarea.proofs.textarea.laws.redo_restores_all.Goals as goal

pub returns : goal.returns
returns c =
    subst (λ (s : State). (splice : Splice) (typed : Bool) (now : ℕ) → Fits s.document.text splice → 0 < s.document.log.maximum → RestoresAll (after_edit s.document splice typed now)) c.area.view_is
    c.redo_restores_all.ensures
