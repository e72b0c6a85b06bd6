use Rattle.textarea_c.proofs.calls.screen.apply_style.Goals as goal

pub returns-clause-screen : goal.returns-clause-screen
returns-clause-screen c = record { rect = c.read.result; is = c.read.ensures; changes = c.set_style.ensures }
