use Rattle.textarea_uses.specs.OneLine.{IsOneLine}
use Rattle.textarea_uses.proofs.one_line.insert_all.Given as goal

abbrev pub invariant-loop-character : goal.invariant-loop-character
invariant-loop-character l = IsOneLine l.initial.area → IsOneLine l.area
