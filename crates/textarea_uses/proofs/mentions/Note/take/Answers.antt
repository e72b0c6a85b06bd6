use Rattle.tui_textarea.specs.Input.{asked_by}
use Rattle.tui_textarea.proofs.Ends.{either_end}
use Rattle.textarea_uses.proofs.mentions.Note.take.Goals as goal

pub returns : goal.returns
returns c =
    c.ranges_cover_as_before.ensures c.args.self.now.area c.input.new.self (asked_by c.args.input) c.is_sound.ensures (either_end c.input.result c.input.ensures.ok c.input.ensures.err)
