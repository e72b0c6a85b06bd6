use Rattle.std.proofs.Common.{◌≡◌, ◌∙◌, Result, Ok, Err, ap, refl}
use Rattle.std.specs.Result.{OnErr, OnOk}
use Rattle.textarea_data.specs.declared.range.AtomicCursorBias.TheVariants.{Forward}
use Rattle.tui_textarea.specs.Ranges.{ranges_accepted}
use Rattle.tui_textarea.specs.State.{State}
use Rattle.tui_textarea.specs.Units.{settled}
use Rattle.tui_textarea.proofs.Settling.{settled_text}
use Rattle.textarea_uses.proofs.mentions.Note.mark.Goals as goal

-- the ranges are accepted, or nothing changes
text_stays : {T E : Type 0} (outcome : Result T E) (old accepted new : State) → OnOk outcome (new ≡ settled Forward accepted) → OnErr outcome (new ≡ old)
    → accepted.document.text ≡ old.document.text → new.document.text ≡ old.document.text
text_stays (Ok done) old accepted new set same text = ap (λ (s : State). s.document.text) set ∙ settled_text Forward accepted ∙ text
text_stays (Err error) old accepted new set same text = ap (λ (s : State). s.document.text) same

pub returns-clause-text : goal.returns-clause-text
returns-clause-text c =
    let old = c.args.self.now.area in
    let outcome = c.in_ok-try_set_atomic_ranges in
    text_stays outcome.field-0 old (ranges_accepted old c.push.new.self.items) c.try_set_atomic_ranges.new.self outcome.ensures.set outcome.ensures.unchanged_if_rejected refl
