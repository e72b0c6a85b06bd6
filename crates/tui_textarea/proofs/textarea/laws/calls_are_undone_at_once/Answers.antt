use Rattle.std.proofs.Common.{ℕ, Bool, List, subst}
use Rattle.textarea_calls.specs.declared.call.Call.{Call}
use Rattle.textarea_text.specs.Splice.{Splice}
use Rattle.textarea_text.specs.Text.{Symbol}
use Rattle.tui_textarea.specs.GroupLaw.{IsEditUndoneAtOnce, IsInsertion, IsReplacement, IsReplacementUndoneAtOnce, IsUndoneAtOnce, MakesFewEdits}
use Rattle.tui_textarea.specs.State.{State}
use Rattle.tui_textarea.proofs.ReplacedAtOnce.{few_edits, replacement_undone_at_once}
use Rattle.tui_textarea.proofs.UndoneAtOnce.{edit_undone_at_once, undone_at_once}
use Rattle.tui_textarea.proofs.textarea.laws.calls_are_undone_at_once.Goals as goal

pub returns-clause-insertions : goal.returns-clause-insertions
returns-clause-insertions c =
    subst (λ (s : State). (made : Call) → IsInsertion made → IsUndoneAtOnce s made) c.area.view_is (λ made is. undone_at_once _ made c.is_sound.ensures is)

pub returns-clause-edits : goal.returns-clause-edits
returns-clause-edits c =
    subst (λ (s : State). (splice : Splice) (typed : Bool) (now : ℕ) → IsEditUndoneAtOnce s.document splice typed now) c.area.view_is
    (λ splice typed now. edit_undone_at_once _ splice typed now c.is_sound.ensures)

pub returns-clause-replacements : goal.returns-clause-replacements
returns-clause-replacements c =
    subst (λ (s : State). (made : Call) → IsReplacement made → IsReplacementUndoneAtOnce s made) c.area.view_is (λ made is. replacement_undone_at_once _ made c.is_sound.ensures is)

pub returns-clause-few : goal.returns-clause-few
returns-clause-few c = subst (λ (s : State). (symbols : List Symbol) → MakesFewEdits s symbols) c.area.view_is (λ symbols. few_edits _ symbols)
