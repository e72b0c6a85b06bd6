use Rattle.std.proofs.Common.{subst}
use Rattle.textarea_document.specs.ChangeLog.{changes_of}
use Rattle.textarea_document.specs.RangeHistory.{past_of}
use Rattle.textarea_document.specs.Prelude.{lines_of, text_of, IsPlaceOf}
use Rattle.textarea_text.proofs.Befores.{text_place}
use Rattle.textarea_document.proofs.Sounds.{sound_layout}
use Rattle.textarea_document.proofs.document.Document.set_lines.Goals as goal

pub invariant_of-self-2 : goal.invariant_of-self-2
invariant_of-self-2 c =
    let items = c.args.lines.items in
    let cursor = c.clip-place.result in
    sound_layout (text_of items) c.self.inside.text_layout.layout.settings c.self.inside.text_layout.layout.count cursor c.max_items.result c.set_lines.new.self c.clear.new.self.items
    c.new-history.result.log (changes_of c.put.new.self) (past_of c.forget.new.self) (past_of c.self.inside.range_history).on c.in_ok-set_lines.ensures.ok c.clear.ensures.items c.new-history.ensures c.forget.ensures
    (text_place items cursor (subst (λ t. IsPlaceOf (lines_of t) cursor) c.as_slice.ensures.value c.clip-place.ensures.is_place))
