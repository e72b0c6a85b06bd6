use Rattle.textarea_editor.proofs.ReadOnlyTexts.{copied_before}
use Rattle.textarea_editor.proofs.draft.Draft.set_read_only.Goals as goal
use Rattle.textarea_text.specs.Text.{lines_of}

pub returns-clause-saved : goal.returns-clause-saved
returns-clause-saved c = λ was. record {
  unchanged = was.unchanged;
  copy = copied_before c.args.self.now.area c.set_read_only.new.self (lines_of c.lines.result.now) (lines_of c.in_ok-copy.copy.items)
      c.set_read_only.ensures c.in_ok-copy.ensures.same c.lines.ensures.lines;
}
