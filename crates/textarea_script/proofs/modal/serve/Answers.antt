use Rattle.textarea_script.proofs.Statuses.{done, exit, unread}
use Rattle.textarea_script.proofs.modal.serve.Goals as goal

pub returns-clause-exit : goal.returns-clause-exit
returns-clause-exit g c = exit c.run_session.result c.status.result c.status.ensures.status c.run_session.ensures.silent c.status.ensures.quiet

pub returns-clause-session : goal.returns-clause-session
returns-clause-session g c = record {
  done = done c.run_session.result c.status.result c.status.ensures.status c.run_session.ensures.done;
  not_read = unread c.run_session.result c.status.result c.status.ensures.status c.run_session.ensures.not_read;
}
