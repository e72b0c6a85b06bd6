use Rattle.std.proofs.Common.{◌≡◌, map}
use Rattle.textarea_text.specs.Text.{lines_of}
use Rattle.tui_textarea.specs.State.{borrowed_characters}
use Rattle.tui_textarea.proofs.textarea.constructors.copy_lines.Given as goal

abbrev pub invariant-loop-line : goal.invariant-loop-line
invariant-loop-line g l = record {
  can : (goal.iterator-loop-line g).can_next l.line-iterator;
  finite : (goal.iterator-loop-line g).is_finite l.line-iterator;
  lines : lines_of l.all.items ≡ map borrowed_characters l.yielded;
}
