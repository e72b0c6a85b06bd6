use Rattle.std.proofs.Common.{arith}
use Rattle.textarea_terminal.proofs.InputReplies.{reply-first, reply-none}
use Rattle.textarea_terminal.proofs.InputUnits.{nothing_read}
use Rattle.textarea_terminal.proofs.input.reply.reply_at.Goals as goal

pub returns-then-first-ne-ESCAPE : goal.returns-then-first-ne-ESCAPE
returns-then-first-ne-ESCAPE c = reply-first c.args.expected c.args.bytes.now (omega arith) c.if-first-ne-ESCAPE.true

pub read_key_or_sequence-requires-clause-begun : goal.read_key_or_sequence-requires-clause-begun
read_key_or_sequence-requires-clause-begun c = nothing_read

pub returns-in-empty : goal.returns-in-empty
returns-in-empty c = reply-none c.args.expected c.args.bytes.now (omega arith)
