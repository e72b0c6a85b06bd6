use Rattle.std.proofs.Common.{rules, string_bytes}
use Rattle.textarea_script.proofs.OneWord.{one_word}
use Rattle.textarea_script.proofs.program_arguments.asked_for.Goals as goal

pub returns-in-len1 : goal.returns-in-len1
returns-in-len1 c =
    one_word (λ word. string_bytes word) c.args.words.now c.word-item.result _ c.in-len1.len_at_least c.in-len1.len_below c.word-item.is (search rules)
