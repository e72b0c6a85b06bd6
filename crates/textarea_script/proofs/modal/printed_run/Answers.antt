use Rattle.std.proofs.Common.{rules, ℕ, List, string_bytes, subst}
use Rattle.std.proofs.lemmas.Result.{IfOk-weaker}
use Rattle.std.specs.Io.{StartsWith}
use Rattle.textarea_script.proofs.modal.printed_run.Goals as goal

pub returns : goal.returns
returns c =
    IfOk-weaker c.with_report.result _ _ (λ text starts. record {
      mode = c.mode.result;
      taken = c.run-end.result.taken;
      stop = c.run-end.result.stop;
      ends = record { new = c.run-end.new.area; ended = search rules; none_out_of_memory = search rules };
      first = subst (λ (l : List ℕ). StartsWith (string_bytes text) l) c.in_ok-head.ensures starts;
    }) c.with_report.ensures
