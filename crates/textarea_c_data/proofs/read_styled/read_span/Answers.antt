use Rattle.std.proofs.Common.{◌+◌, List, ℕ, Option, ap, sym}
use Rattle.textarea_c_data.specs.Spans.{span_read}
use Rattle.textarea_c_data.specs.Texts.{text_at}
use Rattle.textarea_c_data.proofs.Texts.{past_end}
use Rattle.textarea_c_data.proofs.read_styled.read_span.Goals as goal

pub returns-in_default-clause-span : goal.returns-in_default-clause-span
returns-in_default-clause-span c =
    sym (ap (λ (part : Option (List ℕ)). span_read (text_at part) c.args.span) (past_end c.args.text.now c.args.start (c.args.start + c.args.span.bytes) c.in_default.ensures))
