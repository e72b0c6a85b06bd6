use Rattle.std.proofs.Common.{◌≡◌, ◌≢◌, ◌∙◌, [], List, ap, subst, sym}
use Rattle.std.specs.Result.{MatchResult, OnErr, OnOk}
use Rattle.textarea_data.specs.declared.range.AtomicCursorBias.TheVariants.{Forward}
use Rattle.tui_textarea.specs.Ranges.{ranges_accepted}
use Rattle.tui_textarea.specs.Units.{settled}
use Rattle.textarea_text.specs.Text.{lines}
use Rattle.textarea_data.specs.declared.range.RejectedAtomicRange.{RejectedAtomicRange}
use Rattle.textarea_ranges.specs.Rejected.{AreRejected}
use Rattle.textarea_ranges.specs.Valid.{AreValid}
use Rattle.textarea_ranges.proofs.RejectedLemmas.{accepted_if_valid}
use Rattle.tui_textarea.specs.Calls.{ranges_result, rejected_ranges, with_ranges_if}
use Rattle.textarea_run.proofs.OutOfMemory.{with_rejected}
use Rattle.textarea_run.proofs.special.set_ranges.Goals as goal

none : (c : goal.In-Ok) → rejected_ranges c.args.area.now c.args.ranges.items ≡ []
none c =
    let rows = lines c.args.area.now.document.text in
    let valid : AreValid rows c.args.ranges.items = subst (λ outcome. MatchResult outcome (λ _. AreValid rows c.args.ranges.items)
    (λ error. AreRejected rows c.args.ranges.items error.rejected.items)) c.in-Ok.is c.in_ok-try_set_atomic_ranges.ensures.judged in
    (accepted_if_valid rows c.args.ranges.items).1 valid

pub returns-in-Ok-clause-answer : goal.returns-in-Ok-clause-answer
returns-in-Ok-clause-answer c = sym (ap ranges_result (none c))

pub returns-in-Ok-clause-ok : goal.returns-in-Ok-clause-ok
returns-in-Ok-clause-ok c =
    subst (λ outcome. OnOk outcome (c.try_set_atomic_ranges.new.self ≡ settled Forward (ranges_accepted c.args.area.now c.args.ranges.items))) c.in-Ok.is c.in_ok-try_set_atomic_ranges.ensures.set
    ∙ sym (ap (λ (rejected : List RejectedAtomicRange). with_ranges_if rejected c.args.area.now c.args.ranges.items) (none c))

some : (c : goal.In-Err) → rejected_ranges c.args.area.now c.args.ranges.items ≢ []
some c =
    let rows = lines c.args.area.now.document.text in
    let are_rejected : AreRejected rows c.args.ranges.items c.in-Err.error.rejected.items = subst
    (λ outcome. MatchResult outcome (λ _. AreValid rows c.args.ranges.items) (λ error. AreRejected rows c.args.ranges.items error.rejected.items)) c.in-Err.is
    c.in_ok-try_set_atomic_ranges.ensures.judged in
    subst (λ (rejected : List RejectedAtomicRange). rejected ≢ []) are_rejected.listed are_rejected.some

pub returns-in-Err-clause-ok : goal.returns-in-Err-clause-ok
returns-in-Err-clause-ok c =
    subst (λ outcome. OnErr outcome (c.try_set_atomic_ranges.new.self ≡ c.args.area.now)) c.in-Err.is c.in_ok-try_set_atomic_ranges.ensures.unchanged_if_rejected
    ∙ sym (with_rejected (rejected_ranges c.args.area.now c.args.ranges.items) c.args.area.now c.args.ranges.items (some c))
