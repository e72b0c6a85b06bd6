use Rattle.std.proofs.Common.{ap, length, ◌∙◌, arith}
use Rattle.textarea_terminal.specs.InputUnit.{paste_start}
use Rattle.textarea_terminal.proofs.InputMarks.{after_mark-whole}
use Rattle.textarea_terminal.proofs.InputUnits.{index_of-begun, key_or_sequence-begun, unit-other, unit-paste_at}
use Rattle.textarea_terminal.proofs.input.unit.read_escape.Goals as goal

pub read_paste-requires-clause-within : goal.read_paste-requires-clause-within
read_paste-requires-clause-within c = let whole = ap length (after_mark-whole paste_start c.args.bytes.now c.in-Some.text.now c.in-Some.ensures) in omega arith

pub read_paste-requires-clause-begun : goal.read_paste-requires-clause-begun
read_paste-requires-clause-begun c = rw c.saturating_sub.ensures (index_of-begun c.args.bytes.now c.in-Some.text.now c.args.begun c.in-Some.ensures c.requires.begun)

pub read_key_or_sequence-requires-clause-begun : goal.read_key_or_sequence-requires-clause-begun
read_key_or_sequence-requires-clause-begun c = key_or_sequence-begun c.args.begun c.args.bytes.now c.in-None.ensures c.requires.begun

pub returns-in_err-text-in-Some : goal.returns-in_err-text-in-Some
returns-in_err-text-in-Some c = rw c.from_residual.ensures (unit-paste_at c.args.bytes.now c.in-Some.text.now c.in-Some.ensures ∙ c.in_err-text-in-Some.ensures)

pub returns-in_err-unit-in-None : goal.returns-in_err-unit-in-None
returns-in_err-unit-in-None c = rw c.from_residual-in_err-unit-in-None.ensures (unit-other c.args.bytes.now c.in-None.ensures ∙ c.in_err-unit-in-None.ensures)

pub returns-in_ok-text-in-Some : goal.returns-in_ok-text-in-Some
returns-in_ok-text-in-Some c = unit-paste_at c.args.bytes.now c.in-Some.text.now c.in-Some.ensures ∙ c.in_ok-text-in-Some.ensures

pub returns-in_ok-unit-in-None : goal.returns-in_ok-unit-in-None
returns-in_ok-unit-in-None c = unit-other c.args.bytes.now c.in-None.ensures ∙ c.in_ok-unit-in-None.ensures
