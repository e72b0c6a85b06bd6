use Rattle.textarea_lines.proofs.Wrapping.{is_widened}
use Rattle.textarea_lines.proofs.laws.settings_wrap.Goals as goal

pub returns-clause-width : goal.returns-clause-width
returns-clause-width c = is_widened
