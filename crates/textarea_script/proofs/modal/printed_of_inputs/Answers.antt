use Rattle.std.proofs.Common.{rules, refl, string_bytes}
use Rattle.textarea_script.proofs.Printed.{printed_same}
use Rattle.textarea_script.proofs.modal.printed_of_inputs.Goals as goal

pub returns : goal.returns
returns c = printed_same c.printed_run-printed.result (λ text. string_bytes text) (search rules) refl c.printed_run-printed.ensures
