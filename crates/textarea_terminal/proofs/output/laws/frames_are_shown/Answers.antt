use Rattle.std.proofs.Common.{None}
use Rattle.textarea_terminal.proofs.FrameLists.{shows-last}
use Rattle.textarea_terminal.proofs.output.laws.frames_are_shown.Goals as goal

pub returns : goal.returns
returns c = λ columns size steps terminal painted known. shows-last columns size steps None terminal tt painted known
