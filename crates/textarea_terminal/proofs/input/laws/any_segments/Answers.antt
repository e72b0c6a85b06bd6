use Rattle.textarea_terminal.specs.InputState.{new_decoder}
use Rattle.textarea_terminal.proofs.InputStates.{streamed, new-ready}
use Rattle.textarea_terminal.proofs.input.laws.any_segments.Goals as goal

pub returns : goal.returns
returns c = λ calls. streamed calls new_decoder new-ready
