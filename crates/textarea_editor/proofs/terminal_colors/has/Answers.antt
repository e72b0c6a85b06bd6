use Rattle.std.proofs.lemmas.Str.Pattern.{contains_text}
use Rattle.textarea_editor.proofs.terminal_colors.has.Goals as goal

pub returns : goal.returns
returns c = contains_text c.contains.result c.args.part.now c.args.text.now c.contains.ensures.cases
