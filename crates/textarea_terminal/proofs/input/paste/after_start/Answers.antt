use Rattle.textarea_terminal.specs.InputUnit.{paste_start}
use Rattle.textarea_terminal.proofs.InputMarks.{Reads-after_mark}
use Rattle.textarea_terminal.proofs.input.paste.after_start.Goals as goal

pub returns : goal.returns
returns c = Reads-after_mark paste_start c.args.bytes.now c.strip_prefix.result c.strip_prefix.ensures.cases
