use Rattle.textarea_document.specs.ChangeLog.{changes_of}
use Rattle.textarea_document.specs.RangeHistory.{past_of}
use Rattle.textarea_document.proofs.Sounds.{sound_viewed}
use Rattle.textarea_document.proofs.document.Document.set_layout_settings.Goals as goal

pub invariant_of-self : goal.invariant_of-self
invariant_of-self c =
    let inside = c.self.inside in
    sound_viewed c.set_layout_settings.result inside.text_layout c.set_layout_settings.new.self c.args.settings inside.cursor inside.anchor inside.ranges.items inside.history.log (changes_of inside.changes) (past_of inside.range_history)
    c.set_layout_settings.ensures.ok c.set_layout_settings.ensures.err c.self.invariant
