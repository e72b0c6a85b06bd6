use Rattle.std.proofs.Common.{◌∙◌}
use Rattle.textarea_terminal.proofs.InputUnits.{unit_at-key}
use Rattle.textarea_terminal.proofs.input.unit.read_input.Goals as goal

pub returns-in-Some : goal.returns-in-Some
returns-in-Some c = unit_at-key c.args.first c.args.bytes.now c.requires ∙ c.in-Some.ensures

pub returns-in-None : goal.returns-in-None
returns-in-None c = unit_at-key c.args.first c.args.bytes.now c.requires ∙ c.in-None.ensures
