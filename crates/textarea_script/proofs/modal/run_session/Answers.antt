use Rattle.std.proofs.lemmas.Result.{IfErr-weaker}
use Rattle.textarea_script.proofs.Printed.{session_written}
use Rattle.textarea_script.proofs.modal.run_session.Goals as goal

pub returns-clause-done : goal.returns-clause-done
returns-clause-done g c =
    session_written c.write_whole.result _ _ _ c.as_slice.result.now _ _ _ c.as_slice.ensures.value c.in_ok-bytes.ensures.bytes
    c.in_ok-printed.ensures.text c.as_str.ensures.value c.in_ok-printed.ensures.printed c.write_whole.ensures.done

pub returns-clause-silent : goal.returns-clause-silent
returns-clause-silent g c = IfErr-weaker c.write_whole.result _ _ (λ failure stream other. absurd (other stream)) c.write_whole.ensures.fails
