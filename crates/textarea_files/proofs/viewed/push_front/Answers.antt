use Rattle.std.proofs.Common.{string_bytes}
use Rattle.textarea_files.proofs.Views.{byte_added, text_added}
use Rattle.textarea_files.proofs.viewed.push_front.Goals as goal

pub returns-in_ok-push_byte-in-Some-clause-shown : goal.returns-in_ok-push_byte-in-Some-clause-shown
returns-in_ok-push_byte-in-Some-clause-shown c = λ all before.
    let parts = c.split_text.result in
    let pushed = string_bytes c.push_str.new.self in
    byte_added all parts.1.now c.in-Some.after.now pushed (string_bytes c.push_byte.new.text) c.in-Some.byte.now
    c.in-Some.ensures.cases.0 c.split_text.ensures.ends c.in_ok-push_byte-in-Some.ensures
    (text_added all c.args.bytes.now parts.0.now parts.1.now (string_bytes c.args.text.now) pushed
    c.split_text.ensures.joined c.split_text.ensures.utf8 c.in_ok-push_str.ensures.bytes before)

pub returns-in-None-clause-shown : goal.returns-in-None-clause-shown
returns-in-None-clause-shown c = λ all before.
    let parts = c.split_text.result in
    text_added all c.args.bytes.now parts.0.now parts.1.now (string_bytes c.args.text.now) (string_bytes c.push_str.new.self)
    c.split_text.ensures.joined c.split_text.ensures.utf8 c.in_ok-push_str.ensures.bytes before
