use Rattle.std.proofs.Common.{◌∙◌, refl, string_bytes}
use Rattle.textarea_script.proofs.Printed.{printed_same}
use Rattle.textarea_script.proofs.modal.printed_of_text.Goals as goal

pub returns : goal.returns
returns c = printed_same c.printed_of_inputs.result (λ text. string_bytes text) refl (c.as_slice.ensures.value ∙ c.in_ok-inputs.ensures) c.printed_of_inputs.ensures
