use Rattle.textarea_script.proofs.program_arguments.serve_arguments.Goals as goal

pub returns-in-Session-clause-session : goal.returns-in-Session-clause-session
returns-in-Session-clause-session g c = λ asked. c.serve-in-Session.ensures.session
