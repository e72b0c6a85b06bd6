use Rattle.std.proofs.Common.{◌∙◌, sym}
use Rattle.textarea_files.proofs.Views.{no_char_after_chunk, no_char_in_none}
use Rattle.textarea_files.proofs.viewed.split_text.Goals as goal

pub returns-in-Some-clause-ends : goal.returns-in-Some-clause-ends
returns-in-Some-clause-ends c =
    let steps = c.in-Some.ensures.steps in
    no_char_after_chunk _ _ _ _ c.in-Some.chunk.invalid.now c.next.new.self.rest.now c.utf8_chunks.ensures.rest steps.0 c.valid-valid.ensures c.valid-valid.utf8 steps.3.0

pub returns-in-None-clause-ends : goal.returns-in-None-clause-ends
returns-in-None-clause-ends c = no_char_in_none c.args.bytes.now (sym c.utf8_chunks.ensures.len ∙ c.in-None.ensures.steps.0)
