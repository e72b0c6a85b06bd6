use Rattle.std.proofs.Common.{◌≡◌, ℕ, Option, MatchOption, refl, subst}
use Rattle.textarea_data.specs.declared.range.AtomicDeleteDirection.{AtomicDeleteDirection}
use Rattle.textarea_data.specs.declared.range.AtomicRange.{AtomicRange}
use Rattle.textarea_document.specs.Edits.{range_at_cursor}
use Rattle.textarea_c_data.specs.Ranges.{IsRangeOut}
use Rattle.textarea_c.proofs.calls.ranges.find_range.Goals as goal

pub returns-in-Some-clause-range : goal.returns-in-Some-clause-range
returns-in-Some-clause-range c =
    subst (λ (side : Option AtomicDeleteDirection). MatchOption side (c.write_range.result ≡ 6) (λ s. IsRangeOut (range_at_cursor c.args.editor.now.area.document s) c.write_range.result c.write_range.new.range))
    c.in-Some.ensures
    (subst (λ (found : Option AtomicRange). IsRangeOut found c.write_range.result c.write_range.new.range) c.atomic_range_at_cursor.ensures c.write_range.ensures.range)

pub returns-in-None-clause-range : goal.returns-in-None-clause-range
returns-in-None-clause-range c =
    let six : ℕ = 6 in
    subst (λ (side : Option AtomicDeleteDirection). MatchOption side (six ≡ 6) (λ s. IsRangeOut (range_at_cursor c.args.editor.now.area.document s) six c.args.range.now)) c.in-None.ensures refl
