use Rattle.std.proofs.Common.{None, Some, ap, ◌∙◌}
use Rattle.textarea_uses.proofs.prompt.LinePrompt.send.Goals as goal

pub returns-clause-ok : goal.returns-clause-ok
returns-clause-ok c typed h =
    let line = c.typed_line_stays.ensures in
    (ap Some (c.in_ok-text.ensures ∙ line.written c.args.self.now.area None typed h), line.cleared c.args.self.now.area c.clear.new.self None typed h c.in_ok-clear.ensures.ok)
