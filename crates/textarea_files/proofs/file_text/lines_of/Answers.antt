use Rattle.std.proofs.Common.{◌∙◌, ◌++◌, ap, string_bytes}
use Rattle.textarea_files.specs.FileText.{closed_bytes, end_bytes, joined_bytes}
use Rattle.textarea_files.proofs.FileLines.{join_by-last}
use Rattle.textarea_files.proofs.file_text.lines_of.Goals as goal

pub returns-clause-joined : goal.returns-clause-joined
returns-clause-joined c =
    ap (joined_bytes c.args.end) c.in_ok-push.ensures.items
    ∙ join_by-last string_bytes (end_bytes c.args.end) c.push_closed.new.lines.items c.in_ok-last.last
    ∙ ap (λ l. closed_bytes c.args.end c.push_closed.new.lines.items ++ l) c.in_ok-last.ensures.ok ∙ c.in_ok-rest.ensures
    ∙ ap (λ l. closed_bytes c.args.end l ++ c.args.text.now) c.new-lines.ensures.items
