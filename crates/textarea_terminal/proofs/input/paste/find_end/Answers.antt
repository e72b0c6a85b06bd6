use Rattle.std.proofs.Common.{sym, arith}
use Rattle.textarea_terminal.specs.InputUnit.{paste_end}
use Rattle.textarea_terminal.proofs.InputMarks.{index_of-found, index_of-not_found}
use Rattle.textarea_terminal.proofs.input.paste.find_end.Goals as goal

pub returns-in-Some-clause-index : goal.returns-in-Some-clause-index
returns-in-Some-clause-index c =
    sym (index_of-found paste_end c.args.text.now c.args.begun c.saturating_sub-from.result c.in-Some.index (omega arith) c.requires.within (omega arith) c.requires.begun
    (λ i h. omega arith) (rw c.split_at.ensures.back at c.in-Some.ensures))

pub returns-in-None-clause-index : goal.returns-in-None-clause-index
returns-in-None-clause-index c =
    sym (index_of-not_found paste_end c.args.text.now c.args.begun c.saturating_sub-from.result (omega arith) c.requires.within (omega arith) c.requires.begun
    (λ i h. omega arith) (rw c.split_at.ensures.back at c.in-None.ensures))
