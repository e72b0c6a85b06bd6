use Rattle.std.proofs.Common.{false}
use Rattle.textarea_document.specs.ChangeLog.{changes_of}
use Rattle.textarea_document.specs.RangeHistory.{past_of}
use Rattle.textarea_document.specs.Prelude.{text_of}
use Rattle.textarea_document.proofs.Sounds.{sound_layout, start_is_place}
use Rattle.textarea_document.proofs.document.Document.new.Goals as goal

pub invariant_of-result : goal.invariant_of-result
invariant_of-result c =
    let text = text_of c.args.lines.items in
    sound_layout text c.args.settings 0 (0, 0) c.args.max_histories c.in_ok-text_layout.text_layout c.new-ranges.result.items c.new-history.result.log (changes_of c.new-changes.result) (past_of c.new-range_history.result) false
    c.in_ok-text_layout.ensures c.new-ranges.ensures.items c.new-history.ensures c.new-range_history.ensures (start_is_place text)
